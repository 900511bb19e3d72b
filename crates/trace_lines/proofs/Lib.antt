mod Writing
mod Distinct
mod Places
pub mod Kept
mod Sums
mod Fullness
mod HartSums
mod Forth
mod ForthSamples
mod ForthFile
mod Back
mod BackSamples
mod BackFile
mod Lengths
mod Shown
mod Ended
mod Known
mod Lines
mod Whole
pub mod Letters
