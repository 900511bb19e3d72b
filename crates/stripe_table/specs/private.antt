pub mod Kept
pub mod Plays
pub mod Seats
pub mod Found
pub mod Adding
pub mod Fields
pub mod Tested
