-- `look_up_all` meets its contract: each address goes through the three passes. Assumes nothing.
use Rattle.std.proofs.Common.{rules, ◌≡◌, length, get_or, arith, sym}
use Rattle.bulk.specs.inner.Passes.{place_of}
use Rattle.bulk.proofs.Answering.{passes_all, place_lent, some_cell}
use Rattle.bulk.proofs.look_up_all.Goals as goal

pub pass-requires-2-clause-can : goal.pass-requires-2-clause-can
pass-requires-2-clause-can c = λ i h.
    let s = c.args in
    let blocks = length s.first.now in
    let ran = c.pass.ensures.each i (omega (arith, c.pass.ensures.sizes)) in
    let placed : get_or c.pass.new.answers i 0 ≡ place_of s.territory.address blocks (get_or s.addresses.now i 0) = search rules in
    omega (arith, placed, place_lent s.territory.address blocks (get_or s.addresses.now i 0) (some_cell _ _ _ _ (sym c.in_ok-standing_in_cells.ensures)))

pub returns : goal.returns
returns c =
    let s = c.args in
    passes_all s.first.now s.long.now s.territory s.addresses.now s.answers.now
    (sym c.in_ok-standing_in_cells.ensures) (omega (arith, c.well_formed)) (λ i. omega (arith, c.type_inv.addresses i)) c.if-addresses-answers.false
    c.pass.new.answers c.pass-2.new.answers c.pass-3.new.answers
    c.pass.ensures.sizes c.pass-2.ensures.sizes c.pass-3.ensures.sizes
    (λ i h. let ran = c.pass.ensures.each i h in search rules)
    (λ i h. let ran = c.pass-2.ensures.each i h in search rules)
    (λ i h. let ran = c.pass-3.ensures.each i h in search rules)
