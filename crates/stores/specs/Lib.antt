pub mod Cuts
pub mod Reaches
pub mod Sheets
pub mod Slabs
pub mod Splices
