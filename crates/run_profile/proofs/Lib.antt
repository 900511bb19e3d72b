mod Gathered
pub mod FewRuns
pub mod FewProfiles
pub mod Contents
pub mod EventTables
pub mod EventLines
pub mod Alone
pub mod Products
pub mod Tables
