pub mod Rows
pub mod Sums
pub mod Graded
pub mod Degrees
pub mod Sixes
pub mod SizeLaws
pub mod Formed
