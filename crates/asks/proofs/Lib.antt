mod Digits
mod Cuts
pub mod Peeling
