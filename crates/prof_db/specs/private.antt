pub mod Heads
pub mod Marks
pub mod EventParts
pub mod EventEntries
pub mod EventLists
pub mod EventNames
