pub mod Answers
pub mod Days
pub mod Example
pub mod Steps
