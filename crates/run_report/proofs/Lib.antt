pub mod HartLines
pub mod DrillLines
pub mod Columns
pub mod FewEvents
pub mod Counting
pub mod EventLines
pub mod RetiredLines
