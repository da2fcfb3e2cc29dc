-- What many addresses looked up in one call are answered; in `inner`, what serves the passes over the answers.
pub mod All
pub mod inner
