-- Laws of cells and of the lent memory; the crates above cite them.
pub mod Direct
pub mod Lending
pub mod FreeSegments
