pub mod Program
pub mod Scopes
pub mod Samples
pub mod Measured
pub mod Collecting
pub mod Counting
pub mod commands
pub mod private
