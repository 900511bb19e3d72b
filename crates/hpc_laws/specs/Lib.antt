pub mod Apart
pub mod Order
pub mod LiveRuns
pub mod Databases
pub mod TracesOfRuns
