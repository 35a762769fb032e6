pub mod Tables
pub mod Loops
pub mod Parts
pub mod Roots
pub mod Laid
pub mod GroupsInside
pub mod Laying
