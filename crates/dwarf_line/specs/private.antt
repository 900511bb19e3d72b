pub mod ContentValues
pub mod NameEntries
pub mod BestRow
pub mod Rising
pub mod Collecting
pub mod Tables
pub mod Unkept
pub mod Found
