pub mod Joined
pub mod ZeroLaws
pub mod Reports
