pub mod Cutting
pub mod Reaching
mod Slabbing
pub mod Splicing
