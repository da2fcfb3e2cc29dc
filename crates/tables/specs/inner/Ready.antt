-- What the functions that change the tables require: the sizes, and that each touched block that points to a segment owns it. Assumes
-- nothing.
use Rattle.std.specs.Prelude.{◌≡◌, ℕ, ◌+◌, ◌≤◌, ◌<◌, length, get_or}
use Rattle.prefix.specs.declared.Prefix.{Prefix}
use Rattle.prefix.specs.Prefixes.{WellFormed, Encloses}
use Rattle.prefix.specs.Geometry.{width, block_of, blocks}
use Rattle.cells.specs.Cells.{pointer_bit, point_to, segment_of}
use Rattle.cells.specs.Memory.{Tables, Sized}

-- the first cell of the block is a pointer
abbrev pub Points : Tables → ℕ → Type 0
Points tables block = pointer_bit ≤ get_or tables.first block 0

-- the segment that it points to
abbrev pub segment_at : Tables → ℕ → ℕ
segment_at tables block = segment_of (get_or tables.first block 0)

-- the block points to segment s, which is lent and whose owner word names the block
pub record Owns (tables : Tables) (block s : ℕ) : Type 0 where
  pub points : get_or tables.first block 0 ≡ point_to s
  pub lent : s < length tables.owners
  pub owner : get_or tables.owners s 0 ≡ block + 1

-- each of the blocks from..to that points to a segment owns it
abbrev pub Owned : Tables → ℕ → ℕ → Type 0
Owned tables from to = (block : ℕ) → from ≤ block → block < to → Points tables block → Owns tables block (segment_at tables block)

-- the tables can be changed over the prefix p of the territory t
pub record Ready (t p : Prefix) (tables : Tables) : Type 0 where
  pub sized : Sized t tables
  pub formed : WellFormed p
  pub inside : Encloses t p
  pub owned : Owned tables (block_of t p.address) (block_of t p.address + blocks p)

-- and a prefix longer than 24 has an open block: its cells can be repainted
pub record Repaintable (t p : Prefix) (tables : Tables) : Type 0 where
  pub ready : Ready t p tables
  pub has_segment : width < p.length → Points tables (block_of t p.address)

-- the prefix is longer than 24, its block has no segment, and s is one that is lent
pub record Openable (t p : Prefix) (s : ℕ) (tables : Tables) : Type 0 where
  pub sized : Sized t tables
  pub formed : WellFormed p
  pub inside : Encloses t p
  pub longer : width < p.length
  pub direct : get_or tables.first (block_of t p.address) 0 < pointer_bit
  pub lent : s < length tables.owners

-- the tables are ready, the prefix is longer than 24, and its block has a segment
pub record Closable (t p : Prefix) (tables : Tables) : Type 0 where
  pub ready : Ready t p tables
  pub longer : width < p.length
  pub has_segment : Points tables (block_of t p.address)
