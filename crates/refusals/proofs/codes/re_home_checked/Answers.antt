-- `codes::re_home_checked` meets its contract: refusal 2 is that of a prefix with a hop. Assumes nothing.
use mathlib.Core.Path.{refl, sym, ◌∙◌}
use Rattle.ground.proofs.Tests.{says}
use Rattle.prefix.specs.Routes.{puts, is_change}
use Rattle.prefix.proofs.Best.{is_route?}
use Rattle.refusals.specs.Codes.{code}
use Rattle.refusals.proofs.codes.re_home_checked.Goals as goal

pub live_tests-requires : goal.live_tests-requires
live_tests-requires c = λ e. (says (is_route? _) (sym c.is_route.ensures ∙ e)).formed

pub returns : goal.returns
unfolding code is_change
returns c =
    let s = c.args in
    c.live_tests.ensures (puts s.route) (record { names = refl; numbers = c.is_route.ensures })
