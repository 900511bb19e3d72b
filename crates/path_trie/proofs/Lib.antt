pub mod Places
pub mod Merging
pub mod Walking
mod KeptNodes
pub mod Kept
pub mod Seen
pub mod Nodes
pub mod Samples
