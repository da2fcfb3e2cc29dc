-- `book_all` meets its contract: look up answers all addresses, and the answers are entered one after the other. Assumes nothing.
use Rattle.std.proofs.Common.{refl, ap, ◌∙◌}
use Rattle.octets.specs.inner.Numbers.{enter_each}
use Rattle.bulk.proofs.Answering.{has_answered}
use Rattle.octets.proofs.Going.{are_numbers, booked_each}
use Rattle.octets.proofs.book_all.Goals as goal

pub enter_all-requires-clause-numbers : goal.enter_all-requires-clause-numbers
enter_all-requires-clause-numbers c =
    let s = c.args in
    let yes = has_answered s.first.now s.long.now s.territory s.addresses.now s.codes.now c.in_ok-look_up_all.ensures refl in
    are_numbers s.first.now s.long.now s.territory s.addresses.now _ yes.1

pub returns : goal.returns
returns c =
    let s = c.args in
    let yes = has_answered s.first.now s.long.now s.territory s.addresses.now s.codes.now c.in_ok-look_up_all.ensures refl in
    booked_each s.first.now s.long.now s.territory s.addresses.now s.amounts.now s.codes.now s.octets.now
    ((c.if-octets-ne-COUNT.false, c.if-amounts-addresses.false), yes.0)
    (c.enter_all.ensures ∙ ap (λ l. enter_each l s.amounts.now s.octets.now) yes.1)
