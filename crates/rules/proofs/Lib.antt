-- Laws of the rule words, lower ones first; the crates above cite them. `Words` has those of one word, `LiveWords` and `Indices` those of
-- the live words and their routes, `AllLive` those of words that are all live, `Searches` the place of a prefix, `FormTests` and `Counts` the form, `RouteWords` the words of a list
-- of routes, `Shifts`, `Placed` and `Changes` what putting in and taking out leave, and `Cursor` which rules lie in a block.
pub mod Words
pub mod LiveWords
pub mod Indices
pub mod AllLive
pub mod Searches
pub mod FormTests
pub mod Counts
pub mod RouteWords
pub mod Shifts
pub mod Placed
pub mod Changes
pub mod Cursor
