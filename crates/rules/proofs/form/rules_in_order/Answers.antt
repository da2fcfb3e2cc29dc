-- The goals that the check leaves.
use mathlib.Core.Path.{sym, subst, ◌∙◌}
use Prim.Native.Nat.{ℕ}
use native.Mathlib.Omega.{arith}
use lib.ListN.{get_or}
use Rattle.ground.proofs.Tests.{says, denies}
use Rattle.rules.specs.inner.Form.{CountIs}
use Rattle.rules.proofs.Words.{word_room}
use Rattle.rules.proofs.Counts.{ordered_none, next?, ordered_more, counted_stop, counted_all}
use Rattle.rules.proofs.form.rules_in_order.Goals as goal

pub loop-i-init : goal.loop-i-init
loop-i-init c = ordered_none _ _

pub returns-then-not-is_next : goal.returns-then-not-is_next
returns-then-not-is_next c =
    let inv = c.loop-i.invariant in
    counted_stop inv (denies (next? inv) (sym c.is_next.ensures ∙ c.if-not-is_next.true))

pub overflow_add-low : goal.overflow_add-low
overflow_add-low c =
    let w : ℕ = get_or c.args.rules.now c.loop-i.i 0 in
    omega (arith, word_room w (omega arith))

pub loop-i-preserved : goal.loop-i-preserved
loop-i-preserved c =
    let inv = c.loop-i.invariant in
    ordered_more inv (omega arith) (says (next? inv) (sym c.is_next.ensures ∙ c.if-not-is_next.false)) (omega arith)

pub returns : goal.returns
returns c = subst (CountIs c.args.territory c.args.rules.now) (omega arith) (counted_all c.loop-i.invariant c.loop-i-test.false)
