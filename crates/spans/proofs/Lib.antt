pub mod Limiting
mod Placing
pub mod Rooms
mod Spanning
pub mod Sizing
