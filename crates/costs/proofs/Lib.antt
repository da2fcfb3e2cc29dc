-- Lower laws first. `Rates`: what is known of a rate, and of two. `Saying`: what each line says. `Costs`: cost is a strict total order.
-- `OneOutcome` says that a call's contract leaves one outcome. `Figures`: examples that antt computes.
pub mod Rates
pub mod Saying
pub mod Costs
mod OneOutcome
mod Figures
