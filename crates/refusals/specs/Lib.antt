-- When an update is refused; in `inner`, what serves inner functions.
pub mod Codes
pub mod inner
