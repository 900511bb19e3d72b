-- Definitions that only private functions and proofs rest on.
pub mod Countdown
pub mod Advance
