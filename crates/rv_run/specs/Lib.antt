pub mod Schedule
pub mod State
pub mod Calls
pub mod Run
pub mod Progress
pub mod private
