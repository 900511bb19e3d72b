pub mod Spans
pub mod Calls
pub mod Intervals
pub mod Scopes
pub mod Starts
pub mod Places
pub mod Painted
pub mod KnownPlaces
