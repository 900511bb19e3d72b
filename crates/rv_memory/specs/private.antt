-- Definitions that only private functions and proofs rest on.
pub mod Pages
pub mod Paging
pub mod Lending
pub mod PageCache
