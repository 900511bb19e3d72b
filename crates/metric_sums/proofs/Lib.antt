mod Counting
mod Emitted
mod Lasts
mod Periods
mod Shares
mod Stepping
