-- What only private functions and proofs use.
pub mod Stop
pub mod Steps
pub mod Products
pub mod Profiling
pub mod LiveRuns
pub mod CodeAddresses
