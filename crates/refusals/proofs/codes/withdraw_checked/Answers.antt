-- `codes::withdraw_checked` meets its contract: refusal 2 is that of a prefix alone. Assumes nothing.
use mathlib.Core.Path.{refl, sym, ◌∙◌}
use Rattle.ground.proofs.Tests.{says}
use Rattle.prefix.specs.Routes.{takes, is_change}
use Rattle.prefix.proofs.Prefixes.{well_formed?}
use Rattle.refusals.specs.Codes.{code}
use Rattle.refusals.proofs.codes.withdraw_checked.Goals as goal

pub live_tests-requires : goal.live_tests-requires
live_tests-requires c = λ e. says (well_formed? _) (sym c.well_formed-2.ensures ∙ e)

pub returns : goal.returns
unfolding code is_change
returns c =
    let s = c.args in
    c.live_tests.ensures (takes s.prefix) (record { names = refl; numbers = c.well_formed-2.ensures })
