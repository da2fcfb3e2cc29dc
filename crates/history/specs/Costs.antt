-- What demand 3 says of one update: its count, the cells, the price and the bounds. Assumes nothing.
use Rattle.std.specs.Prelude.{◌≡◌, ℕ, ◌+◌, ◌≤◌, ◌<◌, cond, List}
use Rattle.ground.specs.Sums.{sum}
use Rattle.prefix.specs.declared.Prefix.{Prefix}
use Rattle.prefix.specs.Price.{is_open, price}
use Rattle.prefix.specs.Geometry.{width, block_start, touched}
use Rattle.prefix.specs.declared.Route.{Route}
use Rattle.cells.specs.Memory.{Lent}
use Rattle.tables.specs.Changes.{changed}

-- the blocks inside the prefix, and 255 for each that has a segment open
unfoldable pub short_most : Prefix → Prefix → List Route → ℕ
short_most t p rs = sum (touched t p).count (λ i. 1 + cond (is_open rs (block_start t ((touched t p).from + i))) 255 0)

-- an update of the prefix p that took the live list from rs to vs and the memory from m to n, and reported this many cells
pub record Costs (t p : Prefix) (rs vs : List Route) (m n : Lent) (cells : ℕ) : Type 0 where
  pub differing : cells ≡ changed m.tables n.tables
  pub priced : cells ≡ price t rs vs
  pub long : width < p.length → cells ≤ 257
  pub short : p.length ≤ width → cells ≤ short_most t p rs
