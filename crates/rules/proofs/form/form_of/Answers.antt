-- `form::form_of` meets its contract: the count of the rules in order, with the test that all words after them are 0, is the test of the
-- form. Assumes nothing.
use mathlib.Core.Path.{sym, ◌∙◌}
use Rattle.rules.proofs.FormTests.{zeros_rest}
use Rattle.rules.proofs.Counts.{form_fails, form_holds}
use Rattle.rules.proofs.form.form_of.Goals as goal

pub returns-then-not-all_zero : goal.returns-then-not-all_zero
returns-then-not-all_zero c =
    form_fails c.rules_in_order-used.ensures (sym (zeros_rest c.args.rules.now c.rules_in_order-used.result) ∙ sym c.all_zero.ensures ∙ c.if-not-all_zero.true)

pub returns : goal.returns
returns c =
    form_holds c.rules_in_order-used.ensures (sym (zeros_rest c.args.rules.now c.rules_in_order-used.result) ∙ sym c.all_zero.ensures ∙ c.if-not-all_zero.false)
