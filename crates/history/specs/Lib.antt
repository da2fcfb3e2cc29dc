-- Histories of calls, what is live after one, and what an update costs.
pub mod History
pub mod Costs
