-- A stream of update records as a function of its bytes, and what the functions that take one leave.
pub mod Stream
pub mod Taking
