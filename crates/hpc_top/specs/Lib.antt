pub mod commands
pub mod Verdict
pub mod Job
pub mod Outcome
pub mod Follows
pub mod Made
pub mod Merged
pub mod private
