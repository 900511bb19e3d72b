pub mod Symbols
pub mod Found
pub mod Views
pub mod Laws
pub mod private
