-- `codes::live_tests` meets its contract: what the tests answered stands, unless all let pass and the prefix is not live. Assumes nothing.
use mathlib.Core.Path.{◌≡◌, sym, ap, subst, ◌∙◌}
use mathlib.Core.Bool.{true, false, not}
use Rattle.prefix.specs.declared.Prefix.{Prefix}
use Rattle.cells.specs.Memory.{held, needs_segment}
use Rattle.rules.specs.Rules.{routes, is_live}
use Rattle.refusals.specs.Codes.{tested, unless_live}
use Rattle.std.proofs.lemmas.Result.{err_from_is_err_and}
use Rattle.refusals.proofs.Refusing.{refused_is, told_as, stays, goes_on_lem, let_pass, found, by_live, live_needs_none, opens_none}
use Rattle.refusals.proofs.codes.live_tests.Goals as goal

pub returns-in_err-checked : goal.returns-in_err-checked
returns-in_err-checked c = λ ch a.
    let p = err_from_is_err_and c.from_residual.result c.from_residual.ensures.1 in
    rw (p.1, p.2) (stays ch (c.in_err-checked.ensures ch a) (unless_live c.args.prefix))

pub returns-then-is_err : goal.returns-then-is_err
returns-then-is_err c = λ ch a.
    let k = c.in_ok-checked.ensures ch a in
    let out : is_live c.args.prefix (routes c.args.lent.rules.now) ≡ false =
    sym (found ch k).place.says_live ∙ c.is_err.ensures.negation ∙ ap not c.if-is_err.true in
    refused_is (goes_on_lem ch k (by_live c.args.prefix (held c.args.lent) out))

pub returns : goal.returns
returns c = λ ch a.
    let t = c.args.territory in
    let p = c.args.prefix in
    let m = held c.args.lent in
    let k = c.in_ok-checked.ensures ch a in
    let lives : is_live p (routes m.rules) ≡ true = sym (found ch k).place.says_live ∙ c.is_err.ensures.negation ∙ ap not c.if-is_err.false in
    let none : needs_segment t p m.tables ≡ false =
    subst (λ (q : Prefix). is_live q (routes m.rules) ≡ true → needs_segment t q m.tables ≡ false) a.names (live_needs_none (let_pass ch k)) lives in
    told_as k (ap (tested t ch m) (by_live p m lives)) (λ x q. opens_none t p m.tables none)
