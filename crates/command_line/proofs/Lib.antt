pub mod Line
pub mod Named
pub mod Items
pub mod Merged
pub mod Faults
