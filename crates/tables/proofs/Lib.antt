-- Laws of changes of the tables, lower ones first; the crates above cite them.
pub mod Changes
pub mod Ranges
pub mod Segments
pub mod Blocks
pub mod Repaints
pub mod Filling
pub mod Cellwise
pub mod Opening
pub mod Closing
