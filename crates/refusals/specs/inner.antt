-- What an update is told with its number.
pub mod Checks
