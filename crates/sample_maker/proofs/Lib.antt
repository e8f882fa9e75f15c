pub mod Shown
pub mod Given
pub mod Good
mod Worked
