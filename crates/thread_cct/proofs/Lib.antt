pub mod Entries
pub mod Paths
pub mod Tables
pub mod Samples
pub mod Counts
pub mod Putting
mod Columns
mod FirstRepeat
mod DistinctDigests
mod Ties
mod Listed
mod DealtEntries
mod Located
pub mod PlanLaws
mod Mergeable
pub mod Appended
