pub mod Links
pub mod Nesting
pub mod Sources
pub mod Structure
pub mod private
