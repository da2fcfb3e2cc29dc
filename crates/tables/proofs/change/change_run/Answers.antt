-- The goals that the check leaves.
use mathlib.Core.Path.{◌≡◌}
use Prim.Native.Nat.{◌+◌}
use native.Mathlib.Omega.{arith}
use Rattle.ground.proofs.Lists.{differs_small}
use Rattle.tables.proofs.Ranges.{part_none, part_length, part_more}
use Rattle.tables.proofs.change.change_run.Goals as goal

pub loop-cell-init : goal.loop-cell-init
loop-cell-init g c = (omega arith, λ k h. part_none k _ _ _)

pub overflow_add-changed : goal.overflow_add-changed
overflow_add-changed g c =
    record { fits = omega (arith, c.requires.within.few, c.loop-cell.invariant.0, differs_small _ _ _ c.differ.ensures, part_length c.requires.within) }

pub loop-cell-preserved : goal.loop-cell-preserved
loop-cell-preserved g c = (
  omega (arith, differs_small _ _ _ c.differ.ensures),
  λ k h. part_more c.requires.within _ (omega (arith, part_length c.requires.within)) _ (omega (arith, part_length c.requires.within)) (h _ _ c.rule-next.ensures) c.differ.ensures (c.loop-cell.invariant.1 k h),
)

pub returns-clause-changed : goal.returns-clause-changed
returns-clause-changed g c k h =
    let done : c.args.run.start + c.loop-cell.cell-index ≡ c.args.run.end = omega (arith, c.requires.within.ordered, part_length c.requires.within) in
    rw done at (c.loop-cell.invariant.1 k h)

pub returns-clause-few : goal.returns-clause-few
returns-clause-few g c = omega (arith, c.requires.within.ordered, part_length c.requires.within)
