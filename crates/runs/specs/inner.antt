-- What the search for the longest match answers: `Kept` the whole of it, `Steps` the functions on the way.
pub mod Kept
pub mod Steps
