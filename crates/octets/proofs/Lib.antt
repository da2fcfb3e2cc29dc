-- Laws of booking, lower ones first. `Entering`: one flow; `Going`: many, one after the other; `Balancing`: every history of bookings.
-- `OneOutcome` says that a call's contract leaves one outcome.
pub mod Entering
mod Going
pub mod Balancing
mod OneOutcome
