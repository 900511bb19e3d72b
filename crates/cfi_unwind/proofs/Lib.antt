mod Chains
pub mod Ending
mod FewRules
mod Indexing
mod Made
mod PathFrames
mod Recovering
pub mod RecursionRow
mod Starts
mod Walking
