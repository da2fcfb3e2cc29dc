-- The lent memory: what its words mean, its parts, and its sizes.
pub mod Cells
pub mod Memory
