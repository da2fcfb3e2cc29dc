-- What the lines of costs are, and their order. In `inner`, what the code's own types stand for.
--   `Lines`  the line of a hop, and what is known of its rate
--   `Ranks`  which of two hops ranks before the other (`before`)
--   `Order`  a strict total order: `before` is one (`before_order`, proofs/Costs.antt)
pub mod Lines
pub mod Ranks
pub mod Order
pub mod inner
