pub mod Report
pub mod Drill
pub mod private
