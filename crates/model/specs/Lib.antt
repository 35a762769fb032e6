pub mod Network
pub mod Rules
pub mod Calls
pub mod Demand3
pub mod Claims
