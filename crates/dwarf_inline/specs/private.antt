pub mod Ends
pub mod Levels
pub mod Answers
pub mod Names
pub mod Details
pub mod Found
pub mod Kept
pub mod ShortDetails
