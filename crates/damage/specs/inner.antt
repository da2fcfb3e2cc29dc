-- What the parts of the walk along blocks and rules require and answer.
pub mod Walk
