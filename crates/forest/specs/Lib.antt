pub mod Forest
pub mod Calls
pub mod Claims
pub mod Routes
