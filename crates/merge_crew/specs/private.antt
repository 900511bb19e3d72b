pub mod Offers
pub mod Counts
pub mod Workers
pub mod Settling
pub mod Waits
