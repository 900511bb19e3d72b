mod Loops
mod Turns
pub mod Lengths
mod Names
mod Parts
mod Steps
