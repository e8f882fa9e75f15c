pub mod ChoiceLaws
pub mod MaskLaws
pub mod Tables
