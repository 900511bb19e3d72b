-- What the commands that need a program and its run alone make of the contents of their files.
pub mod Run
pub mod Structure
pub mod Timeline
pub mod Trace
