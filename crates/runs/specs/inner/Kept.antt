-- The run of a longest match, kept from one address to the later ones: the cell, how far it holds, and what it takes to know past that end
-- that it holds again. Assumes nothing.
use Rattle.std.specs.Prelude.{◌≡◌, ℕ, ◌^◌, ◌≤◌, ◌<◌, List}
use Rattle.prefix.specs.Prefixes.{Contains}
use Rattle.prefix.specs.Routes.{best}
use Rattle.cells.specs.Cells.{cell_of}
use Rattle.rules.specs.Rules.{routes}
use Rattle.rules.specs.inner.Places.{prefix_at}
use Rattle.runs.specs.declared.Run.{Run}

-- none of the n words from index at on contains b
abbrev pub Clear : List ℕ → ℕ → ℕ → ℕ → Type 0
Clear ws n at b = (k : ℕ) → at ≤ k → k < n → ¬ Contains (prefix_at ws k) b

-- the first at of n words start at a or before
pub record Started (ws : List ℕ) (n a at : ℕ) : Type 0 where
  pub within : at ≤ n
  pub started : (k : ℕ) → k < at → (prefix_at ws k).address ≤ a

-- each address from a on and before until has the cell, where no word from index at on contains it
abbrev pub Covering : List ℕ → ℕ → ℕ → ℕ → ℕ → ℕ → Type 0
Covering ws n a cell until at = (b : ℕ) → a ≤ b → b < until → Clear ws n at b → cell ≡ cell_of (best (routes ws) b)

-- so it does, and the words before index at start at a or before
pub record Covers (ws : List ℕ) (n a cell until at : ℕ) : Type 0 where
  pub counted : Started ws n a at
  pub covers : Covering ws n a cell until at

-- it does, and until is past a
pub record Holds (ws : List ℕ) (n a cell until at : ℕ) : Type 0 where
  pub past : a < until
  pub covers : Covering ws n a cell until at

-- every address from a on and before the run's end has the longest match of its cell, and what covers a later one
pub record Kept (ws : List ℕ) (n a : ℕ) (run : Run) : Type 0 where
  pub same : (b : ℕ) → a ≤ b → b < run.end → run.cell ≡ cell_of (best (routes ws) b)
  pub covers : Covers ws n a run.cell run.until run.at

-- the cell of the longest match of a, kept to an end past a
pub record RunIs (ws : List ℕ) (n a : ℕ) (run : Run) : Type 0 where
  pub is : run.cell ≡ cell_of (best (routes ws) a)
  pub past : a < run.end
  pub within : run.end ≤ 2 ^ 32
  pub kept : Kept ws n a run
