-- Why the search and the run are right: over lists of routes, and what the words say of them; the crate above cites how a run is kept.
mod Matches
mod Same
mod Places
pub mod Covered
mod SharedBits
