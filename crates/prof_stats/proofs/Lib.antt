mod Summaries
mod NodeSpreads
mod Divisors
mod StatsRows
mod OfCallPaths
mod StatementSums
