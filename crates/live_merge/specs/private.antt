pub mod Adding
pub mod Epochs
