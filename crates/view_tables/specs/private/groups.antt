-- The frames of a content, and their occurrences in the callers table and the flat table.
pub mod Occurrences
pub mod Frames
