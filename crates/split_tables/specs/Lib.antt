pub mod Masks
pub mod EachOnce
