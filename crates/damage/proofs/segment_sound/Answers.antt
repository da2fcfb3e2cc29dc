-- `segment_sound` meets its contract: each test that fails is one that a sound segment passes. Assumes nothing.
use mathlib.Core.Path.{refl, sym, ◌∙◌}
use Prim.Native.Nat.{◌*◌}
use native.Mathlib.Omega.{arith}
use Rattle.ground.proofs.Tests.{iff?, stops, same_test}
use Rattle.prefix.specs.Geometry.{block_size}
use Rattle.damage.proofs.Soundness.{clean_part?, segment_sound?}
use Rattle.damage.proofs.segment_sound.Goals as goal

pub returns-then-lent-segment : goal.returns-then-lent-segment
returns-then-lent-segment c = sym (stops (segment_sound? _ _ _) (λ h. omega (arith, h.lent)))

pub returns-then-lent-segment-2 : goal.returns-then-lent-segment-2
returns-then-lent-segment-2 c = sym (stops (segment_sound? _ _ _) (λ h. c.if-lent-segment-2.true (omega (arith, h.owned))))

pub returns : goal.returns
returns c =
    let s = c.args in
    c.all_clean.ensures
    ∙ same_test (clean_part? 32 s.lent.long.now (s.segment * block_size) block_size refl (omega (arith, c.requires)))
    (iff? (segment_sound? _ _ _) (λ h i l. h.clean i (omega arith))
    (λ k. record { lent = omega arith; owned = omega arith; clean = λ i l. k i (omega arith) }))
