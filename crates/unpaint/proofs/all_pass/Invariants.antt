-- `all_pass` meets its contract. The loop's invariant: where `all` is true, the cells before the index pass the test, whatever function
-- computes it. Assumes nothing.
use mathlib.Core.Path.{◌≡◌}
use mathlib.Core.Bool.{Bool, true}
use Prim.Native.Nat.{ℕ}
use Rattle.unpaint.specs.inner.Unpaint.{Pass}
use Rattle.unpaint.proofs.all_pass.Given as goal

abbrev pub invariant-loop-cell : goal.invariant-loop-cell
invariant-loop-cell g l =
    (test : ℕ → Bool) → ((x : ℕ) (y : Bool) → goal.F-post g l.passes x y → y ≡ test x) → l.all ≡ true → Pass test 0 l.cell-index l.cells
