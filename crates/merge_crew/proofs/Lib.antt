pub mod Marking
pub mod Offering
pub mod Settling
pub mod Waiting
