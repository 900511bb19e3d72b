pub mod Sum
pub mod Live
pub mod private
