-- `all_clean` meets its contract. The invariant: `clean` says whether the first cells, up to the index, are. Assumes nothing.
use mathlib.Core.Path.{◌≡◌}
use Rattle.damage.specs.inner.Walk.{clean_run}
use Rattle.damage.proofs.all_clean.Given as goal

abbrev pub invariant-loop-cell : goal.invariant-loop-cell
invariant-loop-cell l = l.clean ≡ clean_run l.longest l.cells 0 l.cell-index
