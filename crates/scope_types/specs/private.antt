pub mod SameRaw
pub mod Steps
