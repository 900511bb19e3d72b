pub mod Samples
pub mod Clock
pub mod private
