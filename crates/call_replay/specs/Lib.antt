pub mod Rules
pub mod Steps
pub mod Claims
