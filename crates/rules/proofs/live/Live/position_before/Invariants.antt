-- `list::position_before` meets its contract. The invariant: 0 and high bracket the answer, and the stride is not 0. The measure is high.
-- Assumes nothing.
use Prim.Native.Nat.{◌≤◌}
use lib.ListN.{length}
use Rattle.rules.specs.inner.Places.{Bracket}
use Rattle.rules.proofs.live.Live.position_before.Given as goal

abbrev pub invariant-loop-stride : goal.invariant-loop-stride
invariant-loop-stride l = Bracket l.self.words.now (length l.self.words.now) l.key 0 l.high × (1 ≤ l.stride)

abbrev pub decreases-loop-stride : goal.decreases-loop-stride
decreases-loop-stride l = l.high
