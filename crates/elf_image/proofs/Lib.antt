pub mod Tables
pub mod Checked
pub mod LoadHeaders
pub mod Counted
pub mod Shared
pub mod Ends
pub mod Sections
