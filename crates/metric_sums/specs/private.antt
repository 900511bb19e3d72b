pub mod Sums
pub mod Ancestors
pub mod Walking
