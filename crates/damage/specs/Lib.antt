-- When the lent memory is damaged; in `inner`, what serves the walk along blocks and rules.
pub mod Damage
pub mod inner
