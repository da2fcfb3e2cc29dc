-- What look up and show answer, on any memory; in `inner`, what serves inner functions.
pub mod Lookup
pub mod Show
pub mod Bytes
pub mod inner
