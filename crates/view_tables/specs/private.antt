pub mod Values
pub mod top
pub mod groups
