-- Definitions that only private functions and proofs rest on.
pub mod Reading
pub mod Queue
