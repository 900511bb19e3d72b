mod Gathered
pub mod RunColumns
pub mod Addresses
pub mod Collecting
pub mod Counted
pub mod SamplesTraced
pub mod TracedSoFar
pub mod FinishedHarts
pub mod HartSamples
pub mod TracedRuns
pub mod TracedLines
