pub mod Kind
pub mod Request
pub mod Words
pub mod Message
pub mod Faulted
pub mod Refusing
pub mod Product
