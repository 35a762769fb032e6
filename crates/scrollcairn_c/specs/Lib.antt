pub mod Exported
pub mod Live
pub mod Opening
pub mod Claims
