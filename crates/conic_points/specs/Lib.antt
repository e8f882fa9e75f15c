pub mod Makings
pub mod Laws
pub mod Points
pub mod Sizes
