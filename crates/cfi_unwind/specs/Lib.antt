pub mod Region
pub mod Caller
pub mod Path
pub mod Chain
pub mod private
