pub mod Gathered
pub mod Kept
pub mod TreeNames
pub mod private
