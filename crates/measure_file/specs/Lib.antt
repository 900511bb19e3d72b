pub mod Fields
pub mod Spelling
pub mod Reading
pub mod Measurable
pub mod private
