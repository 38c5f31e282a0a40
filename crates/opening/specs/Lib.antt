pub mod Tests
pub mod Admission
pub mod Rows
