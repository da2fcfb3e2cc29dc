-- What the steps of an accepted update require.
pub mod Steps
