pub mod OneRow
pub mod Registers
