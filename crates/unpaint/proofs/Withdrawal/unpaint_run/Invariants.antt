-- `unpaint_run` meets its contract. The loop's invariant: the cells before `next` are repainted, `changed` of them differ, and the run
-- holds at the address of `next`. The measure is what is left of the cells. Assumes nothing.
use Prim.Native.Nat.{◌+◌, ◌-◌}
use Rattle.rules.specs.Rules.{routes}
use Rattle.tables.specs.Cellwise.{unpaint_cell}
use Rattle.unpaint.specs.inner.Unpaint.{KeptAt}
use Rattle.unpaint.proofs.Unpainting.{Reached}
use Rattle.unpaint.proofs.Withdrawal.unpaint_run.Given as goal

abbrev pub invariant-loop-i : goal.invariant-loop-i
invariant-loop-i l =
    Reached (λ k. unpaint_cell l.self.length (routes l.self.live.words.now) (l.start + (k - l.part.start))) l.part.start l.part.end l.initial.cells l.cells l.changed l.next
    × KeptAt l.self.live.words.now (l.start + (l.next - l.part.start)) l.run

abbrev pub decreases-loop-i : goal.decreases-loop-i
decreases-loop-i l = l.part.end - l.next
