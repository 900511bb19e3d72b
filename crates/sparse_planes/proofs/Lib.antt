pub mod ByNode
pub mod ByColumn
