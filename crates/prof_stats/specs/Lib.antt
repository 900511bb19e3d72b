pub mod Stats
pub mod StatsTable
pub mod Sums
pub mod private
