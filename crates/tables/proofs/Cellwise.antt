-- What becomes of one cell, painted or at a withdrawal, and the run of the longest match that is kept on the way. Assumes nothing.
use mathlib.Core.Path.{◌≡◌}
use mathlib.Core.Logic.{◌⊎◌}
use mathlib.Core.List.{List}
use Prim.Native.Nat.{ℕ, ◌≤◌}
use Rattle.ground.proofs.Tests.{leb?, eqb?, and?, or?, not?, cond_on, cond_off}
use Rattle.prefix.specs.declared.Route.{Route}
use Rattle.cells.specs.Cells.{empty, length_of}
use Rattle.tables.specs.Cellwise.{paint_cell, unpaint_cell}

module _ (l new cell : ℕ) where
  pub paint_on : (cell ≡ empty) ⊎ (length_of cell ≤ l) → paint_cell l new cell ≡ new
  unfolding paint_cell
  paint_on h = cond_on _ _ (or? (eqb? cell empty) (leb? (length_of cell) l)) h

  pub paint_off : ((cell ≡ empty) ⊎ (length_of cell ≤ l) → ⊥) → paint_cell l new cell ≡ cell
  unfolding paint_cell
  paint_off n = cond_off _ _ (or? (eqb? cell empty) (leb? (length_of cell) l)) n

module _ (l : ℕ) (rs : List Route) (a cell : ℕ) where
  pub unpaint_off : ((cell ≡ empty → ⊥) × (length_of cell ≡ l) → ⊥) → unpaint_cell l rs a cell ≡ cell
  unfolding unpaint_cell
  unpaint_off n = cond_off _ _ (and? (not? (eqb? cell empty)) (eqb? (length_of cell) l)) n
