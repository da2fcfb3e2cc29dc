-- The goals that the check leaves.
use mathlib.Core.Path.{◌≡◌, refl, sym, subst}
use Prim.Native.Nat.{ℕ, ◌+◌, ◌*◌, ◌<◌}
use native.Mathlib.Omega.{arith}
use lib.ListN.{length}
use borrow.Author.Rules.{rules}
use Rattle.ground.proofs.Tests.{passes, stops, if_so, if_not}
use Rattle.prefix.specs.Geometry.{width, block_size}
use Rattle.prefix.proofs.Spans.{aligned}
use Rattle.cells.proofs.Lending.{few_firsts}
use Rattle.rules.specs.inner.Blocks.{CursorAt}
use Rattle.damage.proofs.Soundness.{CleanRun, clean_part?, sound_by?, sound_run?}
use Rattle.rules.proofs.AllLive.{ordered_listed}
use Rattle.damage.proofs.Turns.{start_within, clean_run_lem, sound_run_lem, sound_here, walked_on}
use Rattle.std.proofs.Common.{ap, not}
use Rattle.damage.proofs.walk.Goals.{Else-not-all_clean}
use Rattle.damage.proofs.walk.Goals as goal

pub overflow_add-end : goal.overflow_add-end
overflow_add-end c = omega (arith, c.requires.lent.all)

pub loop-block-init : goal.loop-block-init
loop-block-init c = (record { forward = omega arith; cursor = c.requires.cursor; sound = λ k l m. absurd (omega arith) }, search rules)

pub block_start-start-requires : goal.block_start-start-requires
block_start-start-requires c =
    start_within c.requires.sized (omega (arith, c.well_formed)) c.loop-block.block (omega (arith, c.requires.lent.all))

pub stretch-closed-requires : goal.stretch-closed-requires
stretch-closed-requires c =
    let l = c.loop-block in
    subst (λ (a : ℕ). CursorAt c.args.live.words.now (length c.args.live.words.now) a l.here) (sym c.block_start-start.ensures) l.invariant.0.cursor

pub returns-then-not-all_clean : goal.returns-then-not-all_clean
returns-then-not-all_clean c =
    let l = c.loop-block in
    sym (stops (sound_run? _ _ _ _) (λ all.
    if_not (clean_part? _ _ _ _ refl (omega (arith, c.stretch-closed.ensures.within, c.requires.lent.all))) c.all_clean.ensures (ap not c.if-not-all_clean.true)
    (clean_run_lem c.requires.sized (ordered_listed c.args.live.ordered) l.invariant.0 c.block_start-start.ensures c.stretch-closed.ensures (λ j m k. all j (omega arith) (omega arith)))))

-- past the test, the stretch is clean
clean : (c : Else-not-all_clean) → CleanRun width c.args.lent.first.now c.loop-block.block c.stretch-closed.result
clean c =
    if_so (clean_part? _ _ _ _ refl (omega (arith, c.stretch-closed.ensures.within, c.requires.lent.all))) c.all_clean.ensures (ap not c.if-not-all_clean.false)

pub returns-then-stop-end : goal.returns-then-stop-end
returns-then-stop-end c =
    sym (passes (sound_run? _ _ _ _) (λ k m j.
    sound_run_lem c.requires.sized (ordered_listed c.args.live.ordered) c.loop-block.invariant.0 c.block_start-start.ensures c.stretch-closed.ensures (clean (goal.at.returns-then-stop-end c).Else-not-all_clean) k m (omega arith)))

-- past the second, the block after it has a cell
pub block_start-next-requires : goal.block_start-next-requires
block_start-next-requires c =
    start_within c.requires.sized (omega (arith, c.well_formed)) (c.loop-block.block + c.stretch-closed.result) (omega (arith, c.requires.lent.all, c.stretch-closed.ensures.within))

pub pass-cursor-requires : goal.pass-cursor-requires
pass-cursor-requires c =
    let s = c in
    let same : c.block_start-start.result + block_size * c.stretch-closed.result ≡ c.block_start-next.result = omega (arith, c.block_start-start.ensures, c.block_start-next.ensures) in record {
      cursor_at = subst (λ (a : ℕ). CursorAt s.args.live.words.now (length s.args.live.words.now) a c.loop-block.here) same c.stretch-closed.ensures.cursor;
      aligned = (
        omega (arith, c.block_start-next.ensures, aligned s.requires.sized.territory),
        omega (
          arith,
          c.block_start-next.ensures,
          (start_within c.requires.sized (omega (arith, c.well_formed)) (c.loop-block.block + c.stretch-closed.result) (omega (arith, c.requires.lent.all, c.stretch-closed.ensures.within))),
        ),
      );
    }

pub block_sound-requires : goal.block_sound-requires
block_sound-requires c =
    let s = c.requires in
    let lent : c.loop-block.block + c.stretch-closed.result < length c.args.lent.first.now = omega (arith, s.lent.all, c.stretch-closed.ensures.within) in
    (s.sized.longs, omega (arith, few_firsts s.sized), lent)

pub returns-then-not-block_sound : goal.returns-then-not-block_sound
returns-then-not-block_sound c =
    let l = c.loop-block in
    let stop : ℕ = l.block + c.stretch-closed.result in
    sym (stops (sound_run? _ _ _ _) (λ all.
    if_not (sound_by? _ _ _) c.block_sound.ensures (ap not c.if-not-block_sound.true)
    (sound_here c.requires.sized (ordered_listed c.args.live.ordered) l.invariant.0 c.block_start-start.ensures c.stretch-closed.ensures c.block_start-next.ensures c.pass-cursor.ensures
    (all stop (omega (arith, l.invariant.0.forward)) (omega (arith, c.stretch-closed.ensures.within))))))

pub loop-block-preserved : goal.loop-block-preserved
loop-block-preserved c =
    let l = c.loop-block in (
      walked_on c.requires.sized (ordered_listed c.args.live.ordered) l.invariant.0 c.block_start-start.ensures c.stretch-closed.ensures c.block_start-next.ensures c.pass-cursor.ensures
          (omega arith) (clean (goal.at.loop-block-preserved c).Else-not-all_clean)
          (if_so (sound_by? _ _ _) c.block_sound.ensures (ap not c.if-not-block_sound.false)),
      search rules,
    )

pub returns : goal.returns
returns c = sym (passes (sound_run? _ _ _ _) (λ k m j. c.loop-block.invariant.0.sound k m (omega arith)))
