pub mod Views
pub mod Callers
pub mod Flat
pub mod Sums
pub mod Labels
pub mod private
