-- `codes::tests` meets its contract: each way out is the answer of the tests up to there. Assumes nothing.
use mathlib.Core.Path.{refl, sym, ap, ◌∙◌}
use mathlib.Core.Bool.{not}
use Rattle.ground.proofs.Tests.{if_so}
use Rattle.prefix.specs.Prefixes.{Encloses}
use Rattle.prefix.proofs.Prefixes.{encloses?}
use Rattle.cells.specs.Memory.{held, IsLent}
use Rattle.cells.proofs.Lending.{is_lent?}
use Rattle.refusals.proofs.Refusing.{by_tests, refused_is, told_as}
use Rattle.refusals.proofs.codes.tests.Goals.{Else-not-fits}
use Rattle.refusals.proofs.codes.tests.Goals as goal

-- past the first test, what is lent is right
lent-right : (c : Else-not-fits) → IsLent c.args.territory (held c.args.lent)
lent-right c = if_so (is_lent? _ _) c.fits.ensures (ap not c.if-not-fits.false)

pub returns-then-not-fits : goal.returns-then-not-fits
returns-then-not-fits c = λ ch a.
    refused_is (by_tests c.args.territory (held c.args.lent) a (sym c.fits.ensures ∙ c.if-not-fits.true) refl refl)

pub returns-then-not-lets : goal.returns-then-not-lets
returns-then-not-lets c = λ ch a.
    refused_is (by_tests c.args.territory (held c.args.lent) a (sym c.fits.ensures ∙ c.if-not-fits.false) c.if-not-lets.true refl)

pub encloses-requires : goal.encloses-requires
encloses-requires c = (lent-right (goal.at.encloses-requires c).Else-not-fits).sized.territory.formed.short

pub returns-then-not-encloses : goal.returns-then-not-encloses
returns-then-not-encloses c = λ ch a.
    refused_is (by_tests c.args.territory (held c.args.lent) a (sym c.fits.ensures ∙ c.if-not-fits.false) c.if-not-lets.false
    (sym c.encloses.ensures ∙ c.if-not-encloses.true))

pub damage_tests-requires : goal.damage_tests-requires
damage_tests-requires c =
    let inside : Encloses c.args.territory c.args.prefix = if_so (encloses? _ _) c.encloses.ensures (ap not c.if-not-encloses.false) in
    record { lent = lent-right (goal.at.damage_tests-requires c).Else-not-fits; well_formed = (c.requires (c.if-not-lets.false), inside) }

pub returns : goal.returns
returns c = λ ch a.
    told_as c.damage_tests.ensures
    (by_tests c.args.territory (held c.args.lent) a (sym c.fits.ensures ∙ c.if-not-fits.false) (c.if-not-lets.false) (sym c.encloses.ensures ∙ c.if-not-encloses.false))
    (λ k q. refl)
