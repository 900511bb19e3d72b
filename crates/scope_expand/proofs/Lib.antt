pub mod Keeping
pub mod Lengths
pub mod CallPaths
pub mod NodeNames
mod Roots
