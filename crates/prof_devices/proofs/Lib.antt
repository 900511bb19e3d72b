pub mod Places
pub mod ShownInMemory
pub mod ShownByFolder
pub mod ShownByStreams
pub mod Known
