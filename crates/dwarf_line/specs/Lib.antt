pub mod Names
pub mod Headers
pub mod Programs
pub mod Sequences
pub mod Lines
pub mod private
