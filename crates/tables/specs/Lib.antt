-- Changes of the tables, cell by cell and as a whole; in `inner`, what serves loops and inner functions.
pub mod Cellwise
pub mod Changes
pub mod inner
