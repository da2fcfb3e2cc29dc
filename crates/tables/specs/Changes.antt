-- Changes of the tables as a whole: a segment opened and closed; and what a change leaves, with the number of cells that differ. Assumes
-- nothing.
use Rattle.std.specs.Prelude.{ℕ, ◌+◌, ◌/◌, Bool, cond, not, ◌&&◌, List, ltb, eqb, get_or, set}
use Rattle.ground.specs.Lists.{change_where, differing}
use Rattle.prefix.specs.declared.Prefix.{Prefix}
use Rattle.prefix.specs.Geometry.{width, block_size, block_of, block_start}
use Rattle.prefix.specs.Price.{is_open}
use Rattle.prefix.specs.declared.Route.{Route}
use Rattle.prefix.specs.Routes.{best}
use Rattle.cells.specs.Cells.{empty, point_to, segment_of, cell_of}
use Rattle.cells.specs.Memory.{Tables, lowest_free, needs_segment}

-- all cells of the segment s take one value
unfoldable pub segment_filled : ℕ → ℕ → List ℕ → List ℕ
segment_filled s value long = change_where (λ i. eqb (i / block_size) s) (λ i x. value) long

-- ---- opening

-- segment s opened for the block: all its cells take the old first cell, and the owner word and the pointer are set
unfoldable pub opened_at : ℕ → ℕ → Tables → Tables
opened_at block s tables = record {
  first = set tables.first block (point_to s);
  long = segment_filled s (get_or tables.first block 0) tables.long;
  owners = set tables.owners s (block + 1);
}

-- where one is needed, the lowest free segment is opened
unfoldable pub opened_for : Prefix → Prefix → Tables → Tables
opened_for t p tables =
    cond (needs_segment t p tables) (opened_at (block_of t p.address) (lowest_free tables.owners) tables) tables

-- ---- closing

-- the prefix is longer than 24, and no live prefix longer than 24 is left in its block
unfoldable pub closes : Prefix → Prefix → List Route → Bool
closes t p left = ltb width p.length && not (is_open left (block_start t (block_of t p.address)))

-- segment s of the block closed: the first cell takes a cell, all its cells and the owner word become 0
unfoldable pub closed_at : ℕ → ℕ → ℕ → Tables → Tables
closed_at block s cell tables = record {
  first = set tables.first block cell;
  long = segment_filled s empty tables.long;
  owners = set tables.owners s 0;
}

-- then the segment of the block closes, and the first cell takes the longest live prefix over the block, or 0
unfoldable pub closed_for : Prefix → Prefix → List Route → Tables → Tables
closed_for t p left tables =
    let block = block_of t p.address in
    cond (closes t p left)
    (closed_at block (segment_of (get_or tables.first block 0)) (cell_of (best left (block_start t block))) tables)
    tables

-- ---- what a change leaves

-- how many cells of the two tables differ
abbrev pub changed : Tables → Tables → ℕ
changed before after = differing before.first after.first + differing before.long after.long

-- the tables, and the number of cells that differ
pub record Left : Type 0 where
  pub tables : Tables
  pub cells : ℕ

abbrev pub left : ℕ → Tables → Left
left cells tables = record { tables = tables; cells = cells }

-- what a change by f leaves
abbrev pub leaves : (Tables → Tables) → Tables → Left
leaves f tables = left (changed tables (f tables)) (f tables)
