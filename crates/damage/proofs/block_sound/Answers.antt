-- `block_sound` meets its contract: the two cases of a block, each with its own test of whether it is open. Assumes nothing.
use mathlib.Core.Path.{◌≡◌, sym, ap, ◌∙◌}
use mathlib.Core.Bool.{false, true≢false}
use Prim.Native.Nat.{◌≤◌, ◌<◌}
use native.Mathlib.Nat.{lt_of_not-le}
use native.Mathlib.Omega.{arith}
use lib.ListN.{get_or}
use Rattle.ground.proofs.Tests.{leb?, iff?, stops, same_test, if_so, if_not}
use Rattle.cells.specs.Cells.{pointer_bit}
use Rattle.cells.specs.Memory.{Tables, held}
use Rattle.damage.specs.Damage.{segment_sound, sound_by}
use Rattle.damage.proofs.Soundness.{is_clean?, segment_sound?, sound_by?}
use Rattle.std.proofs.Common.{ap, not}
use Rattle.damage.proofs.block_sound.Goals.{Else-not-is_pointer, Then-not-is_pointer}
use Rattle.damage.proofs.block_sound.Goals as goal

-- the two cases of the first cell
other : (c : Then-not-is_pointer) → let s = c.args in get_or s.lent.first.now s.block 0 < pointer_bit
other c = lt_of_not-le (if_not (leb? _ _) c.is_pointer.ensures (ap not c.if-not-is_pointer.true))

pointer : (c : Else-not-is_pointer) → let s = c.args in pointer_bit ≤ get_or s.lent.first.now s.block 0
pointer c = if_so (leb? _ _) c.is_pointer.ensures (ap not c.if-not-is_pointer.false)

pub returns-then-opened : goal.returns-then-opened
returns-then-opened c =
    sym (stops (sound_by? _ _ _) (λ b. true≢false (sym c.if-opened.true ∙ (b.other (other (goal.at.returns-then-opened c).Then-not-is_pointer)).1)))

pub returns-then-not-is_pointer : goal.returns-then-not-is_pointer
returns-then-not-is_pointer c =
    let o = other (goal.at.returns-then-not-is_pointer c).Then-not-is_pointer in
    c.is_clean.ensures
    ∙ same_test (is_clean? _ _)
    (iff? (sound_by? _ _ _) (λ b. (b.other o).0)
    (λ k. record { pointer = λ p. absurd (omega arith); other = λ l. (k, c.if-opened.false) }))

pub returns-then-not-opened : goal.returns-then-not-opened
returns-then-not-opened c =
    let s = c.args in
    let damaged : sound_by ((held s.lent).tables) s.block s.opened ≡ false =
    stops (sound_by? _ _ _) (λ b. true≢false (sym (b.pointer (pointer (goal.at.returns-then-not-opened c).Else-not-is_pointer)).1 ∙ c.if-not-opened.true)) in
    sym damaged

pub segment-requires : goal.segment-requires
segment-requires c = pointer (goal.at.segment-requires c).Else-not-is_pointer

pub returns : goal.returns
unfolding segment_sound
returns c =
    let s = c.args in
    let p = pointer (goal.at.returns c).Else-not-is_pointer in
    let tables-of : Tables = (held s.lent).tables in
    c.segment_sound.ensures ∙ ap (segment_sound tables-of s.block) c.segment.ensures
    ∙ same_test (segment_sound? tables-of _ _)
    (iff? (sound_by? _ _ _) (λ b. (b.pointer p).0)
    (λ k. record { pointer = λ q. (k, c.if-not-opened.false); other = λ l. absurd (omega arith) }))
