pub mod Checking
pub mod Placed
pub mod KnownCies
pub mod Undoing
pub mod Resuming
pub mod Walking
pub mod Changed
