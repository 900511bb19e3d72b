pub mod Checks
pub mod StringTable
