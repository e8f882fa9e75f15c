pub mod Terms
pub mod Numbers
pub mod Figures
pub mod Ready
pub mod Placed
