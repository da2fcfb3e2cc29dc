-- `walk` meets its contract. The invariant is `Walked`: the blocks before this one are sound, and the cursor stands at its start.
-- Assumes nothing.
use Prim.Native.Nat.{◌-◌, ◌≤◌}
use lib.ListN.{length}
use Rattle.cells.specs.Memory.{held}
use Rattle.damage.proofs.Turns.{Walked}
use Rattle.damage.proofs.walk.Given as goal

abbrev pub invariant-loop-block : goal.invariant-loop-block
invariant-loop-block l =
    Walked l.territory (held l.lent).tables l.live.words.now (length l.live.words.now) l.initial.block l.block l.here × (l.block ≤ l.end)

abbrev pub decreases-loop-block : goal.decreases-loop-block
decreases-loop-block l = l.end - l.block
