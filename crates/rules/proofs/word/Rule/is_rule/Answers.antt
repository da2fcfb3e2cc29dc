-- `Rule::is_rule` meets its contract: past each test that fails the word is no rule, and past all of them it is one exactly if the
-- territory contains its address. Assumes nothing.
use mathlib.Core.Path.{sym}
use native.Mathlib.Omega.{arith}
use Rattle.ground.proofs.Tests.{stops}
use Rattle.rules.proofs.Words.{is_rule?, rule_clear, rule_inside}
use Rattle.rules.proofs.word.Rule.is_rule.Goals as goal

pub returns-then-hop-lt1 : goal.returns-then-hop-lt1
returns-then-hop-lt1 c =
    let s = c.args in
    sym (stops (is_rule? s.territory s.word) (λ r. omega (arith, r.route.some_hop)))

pub returns-then-hop-gt-LAST_HOP : goal.returns-then-hop-gt-LAST_HOP
returns-then-hop-gt-LAST_HOP c =
    let s = c.args in
    sym (stops (is_rule? s.territory s.word) (λ r. omega (arith, r.route.hop_fits)))

pub returns-then-length-gt32 : goal.returns-then-length-gt32
returns-then-length-gt32 c =
    let s = c.args in
    sym (stops (is_rule? s.territory s.word) (λ r. omega (arith, r.route.formed.short)))

pub returns-then-length-territory : goal.returns-then-length-territory
returns-then-length-territory c =
    let s = c.args in
    sym (stops (is_rule? s.territory s.word) (λ r. omega (arith, r.inside.longer)))

pub returns-then-cleared-address : goal.returns-then-cleared-address
returns-then-cleared-address c =
    let s = c.args in
    sym (stops (is_rule? s.territory s.word) (λ r.
    c.if-cleared-address.true (rule_clear s.territory s.word _ _ _ c.address-address.ensures c.length-length.ensures c.cleared.ensures r)))

pub returns : goal.returns
returns c =
    rule_inside c.args.territory c.args.word _ _ _ c.address-address.ensures c.length-length.ensures c.cleared.ensures
    _ c.requires (omega arith) (omega arith) (omega arith) (omega arith) c.if-cleared-address.false c.cleared-2.ensures
