-- Laws of the numbers of refusal; the crates above cite them.
pub mod FreeWords
pub mod Refusing
