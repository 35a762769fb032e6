pub mod Keys
pub mod Numbers
pub mod Pieces
pub mod Places
pub mod Written
