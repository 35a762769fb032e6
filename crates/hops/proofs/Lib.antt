pub mod Forwards
pub mod Places
