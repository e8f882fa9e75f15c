mod SignLaws
pub mod ExponentLaws
pub mod UsedLaws
pub mod ExtensorLaws
