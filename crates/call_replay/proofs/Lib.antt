pub mod Lent
pub mod Puts
pub mod States
pub mod Runs
pub mod Outcomes
pub mod Theorems
