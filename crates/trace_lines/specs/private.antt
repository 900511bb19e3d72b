-- What only private functions and proofs use.
pub mod Paths
pub mod Rows
