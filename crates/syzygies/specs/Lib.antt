pub mod Terms
pub mod SplitTerms
pub mod Collected
pub mod Places
pub mod Additions
