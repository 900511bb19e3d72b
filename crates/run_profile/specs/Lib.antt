pub mod Attribution
pub mod Merging
pub mod EventTexts
pub mod commands
pub mod private
