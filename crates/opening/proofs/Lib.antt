pub mod Admitting
pub mod Filling
pub mod Sizes
