-- The goals that the check leaves.
use Prim.Native.Nat.{◌-◌}
use native.Mathlib.Omega.{arith}
use Rattle.rules.proofs.Indices.{listed_within}
use Rattle.rules.proofs.Searches.{bracket_up, bracket_down}
use Rattle.rules.proofs.AllLive.{ordered_listed}
use Rattle.rules.proofs.live.Live.position_before.Goals as goal

pub loop-stride-init : goal.loop-stride-init
loop-stride-init c = (c.requires, omega arith)

pub bounds-self-at : goal.bounds-self-at
bounds-self-at c =
    omega (arith, listed_within (ordered_listed c.args.self.ordered), c.loop-stride.invariant.0.high_le, c.loop-stride.invariant.1)

pub overflow_add-at : goal.overflow_add-at
overflow_add-at c =
    omega (arith, listed_within (ordered_listed c.args.self.ordered), c.loop-stride.invariant.0.high_le)

pub between-requires : goal.between-requires
between-requires c =
    let s = (ordered_listed c.args.self.ordered) in
    let b = bracket_up s c.loop-stride.invariant.0 (c.loop-stride.high - c.loop-stride.stride) (omega arith) (omega (arith, c.loop-stride.invariant.1)) (omega arith) in
    record { low_le = omega (arith, b.low_le); high_le = b.high_le; below = λ i h. b.below i (omega arith); above = b.above }

pub overflow_add-stride : goal.overflow_add-stride
overflow_add-stride c =
    omega (arith, listed_within (ordered_listed c.args.self.ordered), c.loop-stride.invariant.0.high_le)

pub loop-stride-smaller : goal.loop-stride-smaller
loop-stride-smaller c = omega (arith, c.loop-stride.invariant.1)

pub loop-stride-preserved : goal.loop-stride-preserved
loop-stride-preserved c = (
  bracket_down (ordered_listed c.args.self.ordered) c.loop-stride.invariant.0 _ (omega arith) (omega (arith, c.loop-stride.invariant.1)) (omega arith),
  omega (arith, c.loop-stride.invariant.1),
)

pub between-requires-2 : goal.between-requires-2
between-requires-2 c = c.loop-stride.invariant.0
