pub mod Numbers
pub mod Rows
pub mod LinesLeft
pub mod Lines
pub mod Replies
