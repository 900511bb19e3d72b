pub mod Merged
pub mod private
