pub mod Signed
pub mod Extensors
pub mod Joins
pub mod Exponents
pub mod Uses
pub mod LogUses
