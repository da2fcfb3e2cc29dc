-- `pass_over` meets its contract. The loops' invariant: the cells before `next`, and then before i, pass the test, whatever function computes
-- it. Each stride leaves fewer cells. Assumes nothing.
use mathlib.Core.Path.{◌≡◌}
use mathlib.Core.Bool.{Bool}
use Prim.Native.Nat.{ℕ, ◌-◌, ◌≤◌}
use Rattle.unpaint.specs.inner.Unpaint.{Pass}
use Rattle.unpaint.proofs.pass_over.Given as goal

abbrev pub invariant-loop-next : goal.invariant-loop-next
invariant-loop-next g l =
    (l.from ≤ l.next) × (l.next ≤ l.to)
    × ((test : ℕ → Bool) → ((x : ℕ) (y : Bool) → goal.F-post g l.passes x y → y ≡ test x) → Pass test l.from l.next l.cells)

abbrev pub decreases-loop-next : goal.decreases-loop-next
decreases-loop-next g l = l.to - l.next

abbrev pub invariant-loop-i : goal.invariant-loop-i
invariant-loop-i g l =
    (test : ℕ → Bool) → ((x : ℕ) (y : Bool) → goal.F-post g l.passes x y → y ≡ test x) → Pass test l.from l.i l.cells
