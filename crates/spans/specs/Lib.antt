pub mod Bounds
pub mod Limits
pub mod Rooms
pub mod Sizes
pub mod Spans
