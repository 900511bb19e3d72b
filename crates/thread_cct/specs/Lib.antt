pub mod Adding
pub mod Listing
pub mod Plan
pub mod private
