pub mod Tableaux
pub mod Standard
pub mod Violations
pub mod Merged
