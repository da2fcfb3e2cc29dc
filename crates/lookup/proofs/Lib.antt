-- Laws of the calls that read the tables, lower ones first; the crates above cite them. `OneOutcome` says that a call's contract leaves
-- one answer.
pub mod Reading
pub mod Answers
pub mod Words
mod OneOutcome
pub mod FromC
