-- The invariant of a history, and the demands that follow from it.
mod Holding
mod Matches
pub mod LiveTables
mod Announcing
mod Withdrawing
pub mod Invariant
pub mod Histories
pub mod Demand2
mod Owners
mod Counts
mod Bounds
pub mod Demand3
pub mod NoDamage
