pub mod Turns
pub mod Runs
pub mod RunLaws
pub mod Bounds
pub mod Results
pub mod Queues
