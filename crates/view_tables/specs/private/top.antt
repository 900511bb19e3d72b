-- The rows of the top-down table.
pub mod Rows
