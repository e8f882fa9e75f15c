pub mod TableLaws
pub mod Sizes
pub mod Slices
pub mod NewNames
pub mod RowSteps
pub mod GoodLaws
pub mod SizeLaws
pub mod StepLaws
