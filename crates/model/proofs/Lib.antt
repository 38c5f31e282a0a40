pub mod Grants
pub mod Steps
pub mod Unwinding
pub mod Opened
