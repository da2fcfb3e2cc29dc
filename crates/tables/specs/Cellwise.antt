-- A change of each cell in a prefix, direct or in an open segment, by a function of its address and its content. Nothing here depends on
-- an order of stores. Assumes nothing.
use Rattle.std.specs.Prelude.{ℕ, zero, suc, ◌+◌, ◌/◌, ◌%◌, Bool, false, cond, not, ◌&&◌, ◌||◌, List, leb, eqb, get_or}
use Rattle.ground.specs.Lists.{change_where}
use Rattle.prefix.specs.declared.Prefix.{Prefix}
use Rattle.prefix.specs.Prefixes.{contains}
use Rattle.prefix.specs.Geometry.{block_size, block_start}
use Rattle.prefix.specs.declared.Route.{Route}
use Rattle.prefix.specs.Routes.{best}
use Rattle.cells.specs.Cells.{empty, length_of, point_to, is_pointer, cell_of}
use Rattle.cells.specs.Memory.{Tables}

-- ---- what becomes of one cell

-- announce and re-home: replaced by a new cell if it is 0 or its length is at most that of the prefix, l
unfoldable pub paint_cell : ℕ → ℕ → ℕ → ℕ
paint_cell l new cell = cond (eqb cell empty || leb (length_of cell) l) new cell

-- withdraw: with exactly the prefix's length, it takes the longest match of the routes that are left, or 0; a cell 0 has no length
unfoldable pub unpaint_cell : ℕ → List Route → ℕ → ℕ → ℕ
unpaint_cell l left address cell = cond (not (eqb cell empty) && eqb (length_of cell) l) (cell_of (best left address)) cell

-- ---- which cells are in a prefix

-- the first cell of the block is in the prefix, and is no pointer
unfoldable pub direct_in : Prefix → Prefix → List ℕ → ℕ → Bool
direct_in t p first block = contains p (block_start t block) && not (is_pointer (get_or first block 0))

-- the owner word of the segment that the cell i of the long table stands in: 0 where it is free, else the number of its block + 1
abbrev pub owner_at : Tables → ℕ → ℕ
owner_at tables i = get_or tables.owners (i / block_size) 0

-- by the owner word, the cell is in an open segment, to which its block points, and in the prefix
unfoldable pub open_by : Prefix → Prefix → List ℕ → ℕ → ℕ → Bool
open_by t p first i zero = false
open_by t p first i (suc block) =
    eqb (get_or first block 0) (point_to (i / block_size)) && contains p (block_start t block + i % block_size)

unfoldable pub open_in : Prefix → Prefix → Tables → ℕ → Bool
open_in t p tables i = open_by t p tables.first i (owner_at tables i)

-- by the owner word, the address of the cell; one in a free segment has none, and is not asked for
abbrev pub address_by : Prefix → ℕ → ℕ → ℕ
address_by t i zero = 0
address_by t i (suc block) = block_start t block + i % block_size

abbrev pub cell_address : Prefix → Tables → ℕ → ℕ
cell_address t tables i = address_by t i (owner_at tables i)

-- ---- the tables with those cells changed

unfoldable pub repainted : Prefix → Prefix → (ℕ → ℕ → ℕ) → Tables → Tables
repainted t p f tables = record {
  first = change_where (direct_in t p tables.first) (λ k x. f (block_start t k) x) tables.first;
  long = change_where (open_in t p tables) (λ i x. f (cell_address t tables i) x) tables.long;
  owners = tables.owners;
}
