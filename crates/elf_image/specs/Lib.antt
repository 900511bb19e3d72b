pub mod Fields
pub mod Image
pub mod Headers
pub mod Refusals
pub mod Reading
pub mod private
