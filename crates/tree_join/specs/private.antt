pub mod Children
pub mod Walk
pub mod Sums
pub mod Result
