pub mod Passes
pub mod PassLaws
pub mod Results
pub mod Pairs
