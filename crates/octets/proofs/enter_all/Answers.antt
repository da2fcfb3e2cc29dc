-- The goals that the check leaves.
use Rattle.std.proofs.Common.{◌≡◌, ◌<◌, length, get_or, sym, ap, subst, ◌∙◌, arith}
use Rattle.octets.specs.Booking.{Outcome}
use Rattle.octets.specs.inner.Numbers.{IsNumber, enter_number}
use Rattle.octets.proofs.Entering.{enter_long}
use Rattle.octets.proofs.Going.{going_at, going_more, going_all}
use Rattle.octets.proofs.enter_all.Goals as goal

pub enter-requires : goal.enter-requires
enter-requires c =
    let inv = c.loop-i.invariant in
    let here : c.loop-i.i < length c.args.codes.now = omega (arith, inv.1.long) in
    (inv.0, subst IsNumber (sym (going_at inv.1 here)) (c.requires.numbers c.loop-i.i here))

pub loop-i-preserved : goal.loop-i-preserved
loop-i-preserved c =
    let inv = c.loop-i.invariant in
    let o : Outcome = record { code = c.code.result; words = c.enter.new.octets } in
    let said : o ≡ enter_number (get_or c.loop-i.codes c.loop-i.i 0) (get_or c.args.amounts.now c.loop-i.i 0) c.loop-i.octets =
    ap (λ n. record { code = n; words = c.enter.new.octets }) c.code.ensures ∙ c.enter.ensures in
    (enter_long _ _ _ said ∙ inv.0, going_more inv.1 o said (omega (arith, inv.1.long)) (omega (arith, inv.1.long)))

pub returns : goal.returns
returns c = going_all c.loop-i.invariant.1 (omega (arith, c.loop-i-test.false))
