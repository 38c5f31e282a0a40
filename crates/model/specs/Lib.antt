pub mod Orders
pub mod Calls
pub mod States
pub mod Access
pub mod Rules
pub mod Runs
pub mod Opening
pub mod TwoRuns
