pub mod File
pub mod Calls
pub mod Claims
pub mod Steps
