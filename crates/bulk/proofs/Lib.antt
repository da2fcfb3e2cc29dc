-- Why the passes answer what look up answers, lower laws first; `OneOutcome` says that the call's contract leaves one outcome.
pub mod Answering
mod OneOutcome
