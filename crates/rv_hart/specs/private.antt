-- Definitions that only private functions and proofs rest on.
pub mod Indexing
pub mod Decoding
pub mod Continuing
pub mod Counting
