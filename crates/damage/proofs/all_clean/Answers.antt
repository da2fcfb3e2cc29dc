-- The goals that the check leaves.
use mathlib.Core.Path.{◌≡◌, refl, sym, ap, ap₂, ◌∙◌}
use mathlib.Core.Bool.{◌&&◌}
use Prim.Native.Nat.{ℕ, ◌+◌}
use native.Mathlib.Omega.{arith}
use lib.ListN.{get_or}
use Rattle.ground.specs.Lists.{every_below}
use Rattle.damage.specs.Damage.{is_clean}
use Rattle.damage.specs.inner.Walk.{clean_run}
use Rattle.damage.proofs.Soundness.{clean_more}
use Rattle.damage.proofs.all_clean.Goals as goal

pub loop-cell-init : goal.loop-cell-init
unfolding clean_run every_below
loop-cell-init c = refl

pub loop-cell-preserved : goal.loop-cell-preserved
loop-cell-preserved c =
    let s = c.args in
    let i = c.loop-cell.cell-index in
    let same : i ≡ 0 + i = omega arith in
    ap₂ ◌&&◌ c.loop-cell.invariant (c.is_clean-clean.ensures ∙ ap (λ (j : ℕ). is_clean s.longest (get_or s.cells.now j 0)) same)
    ∙ sym (clean_more s.longest s.cells.now 0 i)
