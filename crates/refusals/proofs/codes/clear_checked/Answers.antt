-- `codes::clear_checked` meets its contract: clear is refused by the sizes alone. Assumes nothing.
use mathlib.Core.Path.{sym, ap, ◌∙◌}
use mathlib.Core.Bool.{Bool, cond, not}
use Rattle.refusals.specs.Codes.{clear_code}
use Rattle.refusals.proofs.codes.clear_checked.Goals as goal

pub returns-then-not-fits : goal.returns-then-not-fits
unfolding clear_code
returns-then-not-fits c = sym (ap (λ (t : Bool). cond (not t) 1 0) (sym c.fits.ensures ∙ c.if-not-fits.true))

pub returns : goal.returns
unfolding clear_code
returns c = sym (ap (λ (t : Bool). cond (not t) 1 0) (sym c.fits.ensures ∙ c.if-not-fits.false))
