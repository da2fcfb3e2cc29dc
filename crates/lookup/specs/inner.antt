-- What the functions that several calls share answer, and what the one number of an answer holds.
pub mod Standing
pub mod Outcomes
