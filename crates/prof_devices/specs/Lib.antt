pub mod Files
pub mod Outside
pub mod InMemory
pub mod Edge
pub mod private
