-- What the pass over the words, the search and the moves of words, and the questions about blocks answer.
pub mod Form
pub mod Places
pub mod Blocks
