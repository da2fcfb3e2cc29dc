-- `unpaint_blocks` meets its contract. The loop's invariant: the blocks before `next` are repainted, `changed` of their cells differ,
-- and the run holds at the address of `next`. The measure is what is left of the blocks. Assumes nothing.
use Prim.Native.Nat.{◌-◌, ◌≤◌}
use Rattle.unpaint.specs.inner.Unpaint.{BlocksUnpainted}
use Rattle.cells.specs.Memory.{tables_of}
use Rattle.unpaint.proofs.Withdrawal.unpaint_blocks.Given as goal

abbrev pub invariant-loop-block : goal.invariant-loop-block
invariant-loop-block l =
    (l.from ≤ l.next) × (l.next ≤ l.to)
    × BlocksUnpainted l.territory l.self.length l.self.live.words.now l.from l.next (tables_of l.initial.first l.initial.long l.owners) l.first l.long l.changed l.run

abbrev pub decreases-loop-block : goal.decreases-loop-block
decreases-loop-block l = l.to - l.next
