-- What serves the loop over many answers.
pub mod Numbers
