pub mod Draws
pub mod Code
pub mod Frames
pub mod File
pub mod Guest
pub mod private
