pub mod Checked
pub mod Adjoining
