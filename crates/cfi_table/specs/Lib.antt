pub mod Instructions
pub mod Rules
pub mod Entries
pub mod Frames
pub mod Rows
pub mod Laws
pub mod private
