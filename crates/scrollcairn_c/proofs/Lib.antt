pub mod Reading
pub mod Whole
pub mod Refused
pub mod Stored
pub mod Made
pub mod Opened
pub mod Theorems
