pub mod Indices
pub mod Passed
pub mod Texts
pub mod SpecParts
