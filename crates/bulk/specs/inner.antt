-- What serves the passes over the answers.
pub mod Passes
