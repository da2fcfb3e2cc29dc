-- The goals that the check leaves.
use mathlib.Core.Path.{◌≡◌, sym, ◌∙◌}
use Prim.Native.Nat.{◌<◌}
use native.Mathlib.Omega.{arith}
use Rattle.ground.proofs.Tests.{says, denies}
use Rattle.prefix.specs.Prefixes.{Contains}
use Rattle.prefix.proofs.Prefixes.{contains?}
use Rattle.rules.proofs.AllLive.{ordered_listed}
use Rattle.runs.specs.inner.Steps.{last_word}
use Rattle.runs.proofs.Places.{last_some, last_none, climb_start, climb_none, climb_found, climb_length, climb_back, climb_more}
use Rattle.runs.proofs.Place.climb.Goals.{In-Some, Else-contains}
use Rattle.runs.proofs.Place.climb.Goals as goal

-- the word is the last of those that are left
last : (c : In-Some) → (0 < c.loop-word.count) × (c.in-Some.word.now ≡ last_word c.args.self.live.words.now c.loop-word.count)
last c = last_some _ _ c.loop-word.invariant.count.within c.in-Some.ensures.value

-- and in a turn that goes on, its prefix does not contain the address
apart : (c : Else-contains) → ¬ Contains c.prefix-prefix.result c.args.self.address
apart c = denies (contains? _ _) (sym c.contains.ensures ∙ c.if-contains.false)

pub loop-word-init : goal.loop-word-init
loop-word-init c = climb_start (ordered_listed c.args.self.live.ordered) c.args.self.counted

pub returns-then-contains : goal.returns-then-contains
returns-then-contains c =
    climb_found (ordered_listed c.args.self.live.ordered) c.loop-word.invariant (last (goal.at.returns-then-contains c).In-Some)
    c.prefix-prefix.ensures (says (contains? _ _) (sym c.contains.ensures ∙ c.if-contains.true))

pub shared-length-requires : goal.shared-length-requires
shared-length-requires c =
    let at = goal.at.shared-length-requires c in (
      climb_length (ordered_listed c.args.self.live.ordered) c.loop-word.invariant (last at.In-Some) c.prefix-prefix.ensures
          (apart at.Else-contains) (omega arith),
      c.loop-word.invariant.short,
    )

pub position_before-count-requires : goal.position_before-count-requires
position_before-count-requires c =
    climb_back (ordered_listed c.args.self.live.ordered) c.loop-word.invariant c.key_past-key.ensures (omega (arith, c.shared-length.ensures.below))

pub loop-word-preserved : goal.loop-word-preserved
loop-word-preserved c =
    let at = goal.at.loop-word-preserved c in
    climb_more (ordered_listed c.args.self.live.ordered) c.loop-word.invariant (last at.In-Some) c.prefix-prefix.ensures
    (apart at.Else-contains) c.shared-length.ensures c.key_past-key.ensures c.position_before-count.ensures

pub returns : goal.returns
returns c =
    climb_none (ordered_listed c.args.self.live.ordered) c.loop-word.invariant
    (last_none _ _ c.loop-word.invariant.count.within c.in_default.ensures.value)
