pub mod Tables
pub mod Build
pub mod Inside
pub mod Layout
