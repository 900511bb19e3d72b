pub mod Writing
pub mod Profiles
pub mod FourSamples
pub mod TwentySamples
pub mod TwoEvents
pub mod TwoRuns
pub mod FirstBroken
pub mod FieldSteps
pub mod Heads
pub mod Marking
pub mod Preorder
pub mod Exclusive
pub mod Sampled
pub mod Saturated
pub mod Contents
pub mod Broken
pub mod LineUp
pub mod LineRoom
pub mod OwnPaths
pub mod OwnNames
pub mod Passed
pub mod Owned
pub mod BackItems
pub mod BackPlanes
pub mod BackNames
pub mod Headed
pub mod Versions
pub mod BackFile
pub mod ForthItems
pub mod ForthHead
pub mod ForthPlanes
pub mod ForthFile
pub mod InPreorder
pub mod CallPaths
pub mod StoredNodes
pub mod StoredNames
pub mod StoredWords
pub mod StoredEntries
pub mod StoredPlanes
pub mod StoredHeads
pub mod StoredRules
pub mod VersionOne
pub mod StoredPaths
mod EventEntries
mod EventLists
mod HartLists
mod Ranges
mod EventValues
mod EventKept
mod Filtered
mod NamesFound
mod EventNumbers
mod EventColumns
mod EventWhole
