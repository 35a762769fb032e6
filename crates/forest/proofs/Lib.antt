pub mod Shared
pub mod Ancestry
pub mod Primaries
pub mod Accepted
pub mod Theorems
pub mod AncestorTables
pub mod Exactly
