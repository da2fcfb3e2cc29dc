-- The lent rule words: one word, a list of them, and the list of routes that they stand for; in `inner`, what serves loops and inner
-- functions.
pub mod Words
pub mod Rules
pub mod inner
