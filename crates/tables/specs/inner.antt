-- What the functions that change the tables require, and what their loops do.
pub mod Ready
pub mod Ranges
