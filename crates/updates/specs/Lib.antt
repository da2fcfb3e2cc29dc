-- What clear, announce, withdraw and re-home leave in the lent memory, cell by cell, and what they report; in `inner`, what serves inner
-- functions.
pub mod Effects
pub mod Calls
pub mod inner
