pub mod Fields
pub mod Index
pub mod Dealing
pub mod Listed
pub mod Keys
pub mod Digests
