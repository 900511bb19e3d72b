pub mod CodeWords
pub mod Stepwise
pub mod UnwindRules
pub mod Index
pub mod Walks
