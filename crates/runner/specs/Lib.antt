pub mod Printed
pub mod Claims
pub mod Steps
pub mod Impostors
