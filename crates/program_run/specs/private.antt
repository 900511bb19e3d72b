-- What only private functions and proofs use.
pub mod Products
pub mod Tracing
pub mod TracedAddresses
