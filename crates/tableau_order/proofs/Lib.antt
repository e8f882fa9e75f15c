pub mod SortedRows
pub mod Columns
pub mod Splits
pub mod MergedRows
