pub mod ColumnLaws
pub mod Parts
