-- What the loops of a withdrawal require and leave.
pub mod Unpaint
