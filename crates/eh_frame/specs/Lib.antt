pub mod Addresses
pub mod Cies
pub mod Runs
pub mod Entries
pub mod Descriptions
pub mod Translation
pub mod Laws
pub mod private
