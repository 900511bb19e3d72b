pub mod Sorting
pub mod Counting
pub mod Prefixes
pub mod NodeLaws
pub mod ValueLaws
pub mod Totals
pub mod Parents
pub mod FourRows
pub mod TwentyRows
pub mod InlinedRows
pub mod Cutting
pub mod TreePaths
pub mod PathsAgain
pub mod CalledRows
pub mod Pieces
pub mod NamesAgain
pub mod Numbers
pub mod Bounds
pub mod Entries
mod Searched
mod NamePlaces
pub mod ContentParts
mod Places
pub mod PathSteps
pub mod SortedOnce
pub mod TreeLaws
pub mod TreeValues
pub mod Enclosed
pub mod WholeValues
pub mod CountedPaths
pub mod Selecting
pub mod ValuePlanes
pub mod EventPaths
pub mod EventParts
pub mod OneEvent
