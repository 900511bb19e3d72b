-- What the commands that need a database alone make of the contents of their files.
pub mod View
pub mod Stats
