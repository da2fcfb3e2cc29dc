-- What the code's own types stand for.
--   `Classes`  the number of each class of lines
--   `Entries`  a hop with its two words
pub mod Classes
pub mod Entries
