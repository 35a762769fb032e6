pub mod Bools
pub mod Laws
pub mod Visits
