-- What the loops do: a run of cells changed, and the cells of a run of blocks, direct or in an open segment. Assumes nothing.
use Rattle.std.specs.Prelude.{◌≡◌, ℕ, zero, suc, ◌+◌, ◌*◌, ◌/◌, ◌%◌, ◌≤◌, Bool, false, cond, not, ◌&&◌, List, leb, ltb, eqb, length, get_or}
use Rattle.ground.specs.Lists.{change_where, differing}
use Rattle.prefix.specs.declared.Prefix.{Prefix}
use Rattle.prefix.specs.Prefixes.{span}
use Rattle.prefix.specs.Geometry.{block_size, block_start}
use Rattle.cells.specs.Cells.{point_to, is_pointer}
use Rattle.cells.specs.Memory.{Tables, most_segments, Sized}
use Rattle.tables.specs.Cellwise.{owner_at, cell_address}
use Rattle.tables.specs.inner.Ready.{Owned}

-- from ≤ i < to
unfoldable pub in_range : ℕ → ℕ → ℕ → Bool
in_range from to i = leb from i && ltb i to

-- ---- a run of cells

-- from..to is a run of the cells, no longer than a segment
pub record Within (from to : ℕ) (cells : List ℕ) : Type 0 where
  pub ordered : from ≤ to
  pub inside : to ≤ length cells
  pub few : to ≤ from + block_size

-- each cell in from..to is changed to g of its index and content, and r is how many cells differ
pub record RunChanged (g : ℕ → ℕ → ℕ) (from to : ℕ) (cells after : List ℕ) (r : ℕ) : Type 0 where
  pub is : after ≡ change_where (in_range from to) g cells
  pub count : r ≡ differing cells after

-- from..to is a run of the segment that starts at `at`, in a long table
pub record InSegment (at from to : ℕ) (cells : List ℕ) : Type 0 where
  pub low : at ≤ from
  pub ordered : from ≤ to
  pub high : to ≤ at + block_size
  pub lent : at + block_size ≤ length cells
  pub small : length cells ≤ block_size * most_segments

-- one value in from..to, another elsewhere
unfoldable pub two_values : ℕ → ℕ → ℕ → ℕ → ℕ → ℕ
two_values from to inside around i = cond (in_range from to i) inside around

-- from..to are the cells of segment s
pub record SegmentRun (s from to : ℕ) : Type 0 where
  pub low : from ≡ s * block_size
  pub high : to ≡ from + block_size

-- from..to are the cells of a prefix longer than 24 in segment s
pub record PrefixRun (p : Prefix) (s from to : ℕ) : Type 0 where
  pub low : from ≡ s * block_size + p.address % block_size
  pub high : to ≡ from + span p.length

-- ---- a run of blocks

-- the block is in from..to, and its first cell is no pointer
unfoldable pub direct_among : ℕ → ℕ → List ℕ → ℕ → Bool
direct_among from to first block = in_range from to block && not (is_pointer (get_or first block 0))

-- by the owner word, the cell is in an open segment, to which its block points, and the block is in from..to
unfoldable pub open_among_by : ℕ → ℕ → List ℕ → ℕ → ℕ → Bool
open_among_by from to first i zero = false
open_among_by from to first i (suc block) = eqb (get_or first block 0) (point_to (i / block_size)) && in_range from to block

unfoldable pub open_among : ℕ → ℕ → Tables → ℕ → Bool
open_among from to tables i = open_among_by from to tables.first i (owner_at tables i)

-- the blocks from..to can be changed
pub record BlocksReady (t : Prefix) (from to : ℕ) (tables : Tables) : Type 0 where
  pub sized : Sized t tables
  pub ordered : from ≤ to
  pub within : to ≤ length tables.first
  pub owned : Owned tables from to

-- each cell of these blocks, direct or in an open segment, is changed by f of its address and content, and r is how many cells differ
pub record BlocksChanged (t : Prefix) (f : ℕ → ℕ → ℕ) (from to : ℕ) (tables : Tables) (first long : List ℕ) (r : ℕ) : Type 0 where
  pub firsts : first ≡ change_where (direct_among from to tables.first) (λ k. f (block_start t k)) tables.first
  pub longs : long ≡ change_where (open_among from to tables) (λ i. f (cell_address t tables i)) tables.long
  pub count : r ≡ differing tables.first first + differing tables.long long
