-- Laws of damage; the crates above cite them.
pub mod Soundness
pub mod Turns
