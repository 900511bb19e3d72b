pub mod Join
pub mod private
