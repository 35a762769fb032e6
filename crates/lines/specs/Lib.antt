pub mod Lines
pub mod Good
pub mod Limits
pub mod Fields
