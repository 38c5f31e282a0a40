pub mod Exampled
pub mod Leaving
