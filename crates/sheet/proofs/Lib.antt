-- Lower laws first. `Orders`, `Heaps` and `Runs`: heap sort and quick sort over any strict total order. `Counts`: lists of all hops. `Sorted`: the
-- end of both sorts. `Unique`: two lists of the hops in order are equal. `Refusing`: when the sheet is refused. `Dearest`: what the sheet says.
-- `OneOutcome` says that a call's contract leaves one outcome.
mod Orders
mod Heaps
mod Counts
mod Runs
mod Sorted
mod Unique
mod Refusing
pub mod Dearest
mod OneOutcome
