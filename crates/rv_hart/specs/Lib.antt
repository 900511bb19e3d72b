pub mod Arithmetic
pub mod Running
pub mod Step
pub mod Events
pub mod Stepping
pub mod private
