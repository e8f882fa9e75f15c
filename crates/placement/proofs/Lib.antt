pub mod Steps
pub mod Shown
pub mod TermLaws
pub mod Ready
pub mod Makes
pub mod SoFar
