-- The search for the longest match is believed by `best` alone (prefix/specs/Routes.antt); in `inner`, what its functions answer.
pub mod inner
