-- Withdrawal's repaint, with the run of the longest match kept on the way: what its loops require and leave. A cell that stays is passed
-- over; any other takes the run's cell, up to the run's end. Assumes nothing.
use Rattle.std.specs.Prelude.{◌≡◌, ℕ, ◌+◌, ◌-◌, ◌*◌, ◌≤◌, ◌<◌, Bool, true, cond, not, ◌&&◌, List, eqb, length, get_or}
use Rattle.prefix.specs.declared.Prefix.{Prefix}
use Rattle.prefix.specs.Geometry.{block_size, block_start}
use Rattle.cells.specs.Cells.{empty, length_of, pointer_bit, is_pointer}
use Rattle.cells.specs.Memory.{Tables}
use Rattle.rules.specs.Rules.{routes}
use Rattle.runs.specs.declared.Run.{Run}
use Rattle.runs.specs.inner.Kept.{Kept}
use Rattle.tables.specs.Cellwise.{unpaint_cell}
use Rattle.tables.specs.inner.Ranges.{RunChanged, BlocksChanged}

-- the run holds at the address a, over words that are all live
abbrev pub KeptAt : List ℕ → ℕ → Run → Type 0
KeptAt ws a run = Kept ws (length ws) a run

-- it does, and ends past it
pub record Found (ws : List ℕ) (a : ℕ) (run : Run) : Type 0 where
  pub past : a < run.end
  pub kept : KeptAt ws a run

-- ---- one cell

-- a withdrawal of a prefix of length l leaves the cell: it is 0, or of another length
unfoldable pub stays : ℕ → ℕ → Bool
stays l cell = not (not (eqb cell empty) && eqb (length_of cell) l)

-- a new cell in its place, unless it stays
unfoldable pub replaced : ℕ → ℕ → ℕ → ℕ
replaced l new cell = cond (stays l cell) cell new

-- ---- cells that are passed over

-- from..to are some of the cells
pub record Inside (from to : ℕ) (cells : List ℕ) : Type 0 where
  pub ordered : from ≤ to
  pub inside : to ≤ length cells

-- the cells from..to pass the test
abbrev pub Pass : (ℕ → Bool) → ℕ → ℕ → List ℕ → Type 0
Pass test from to cells = (k : ℕ) → from ≤ k → k < to → test (get_or cells k 0) ≡ true

-- a first cell is passed over: it is no pointer, and stays
unfoldable pub passed : ℕ → ℕ → Bool
passed l cell = not (is_pointer cell) && stays l cell

-- the cells from..to are no pointers
abbrev pub Closed : ℕ → ℕ → List ℕ → Type 0
Closed from to cells = (k : ℕ) → from ≤ k → k < to → get_or cells k 0 < pointer_bit

-- ---- how far a run's cell goes

-- the blocks from..at, some of those from..to and no more than a segment has cells: all start within the first `room` addresses, and their
-- first cells are no pointers
pub record PieceIs (room from to : ℕ) (first : List ℕ) (at : ℕ) : Type 0 where
  pub some : from < at
  pub within : at ≤ to
  pub few : at ≤ from + block_size
  pub fit : block_size * (at - from - 1) < room
  pub closed : Closed from at first

-- ---- what the loops leave

-- the cells from..to, of the addresses from a on, are changed, and the run holds past them
pub record RunUnpainted (l : ℕ) (ws : List ℕ) (a from to : ℕ) (cells after : List ℕ) (r : ℕ) (run : Run) : Type 0 where
  pub changed : RunChanged (λ i. unpaint_cell l (routes ws) (a + (i - from))) from to cells after r
  pub kept : KeptAt ws (a + (to - from)) run

-- the blocks from..to are changed, and the run holds past them
pub record BlocksUnpainted (t : Prefix) (l : ℕ) (ws : List ℕ) (from to : ℕ) (tables : Tables) (first long : List ℕ) (r : ℕ) (run : Run) : Type 0 where
  pub blocks : BlocksChanged t (unpaint_cell l (routes ws)) from to tables first long r
  pub kept : KeptAt ws (block_start t to) run

-- some of the blocks from..to are, up to at
pub record SomeUnpainted (t : Prefix) (l : ℕ) (ws : List ℕ) (from to : ℕ) (tables : Tables) (first long : List ℕ) (r : ℕ) (run : Run) (at : ℕ)
    : Type 0 where
  pub some : from < at
  pub within : at ≤ to
  pub done : BlocksUnpainted t l ws from at tables first long r run
