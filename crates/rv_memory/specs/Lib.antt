pub mod AddressSpace
pub mod private
