-- What the sheet of costs is: each hop once, each before the next; one list only is so (`one_ranking`, proofs/Unique.antt). In `inner`, what
-- the steps of the sort leave.
pub mod Sheet
pub mod inner
