pub mod Traces
pub mod Fields
pub mod Spelling
pub mod Reading
pub mod Timeline
pub mod private
