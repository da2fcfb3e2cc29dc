-- `codes::is_route` meets its contract: past the tests of the hop, the prefix decides. Assumes nothing.
use mathlib.Core.Path.{sym, ◌∙◌}
use native.Mathlib.Omega.{arith}
use Rattle.ground.proofs.Tests.{iff?, stops, same_test}
use Rattle.prefix.proofs.Prefixes.{well_formed?}
use Rattle.prefix.proofs.Best.{is_route?}
use Rattle.refusals.proofs.codes.is_route.Goals as goal

pub returns-then-route-lt1 : goal.returns-then-route-lt1
returns-then-route-lt1 c = sym (stops (is_route? _) (λ r. omega (arith, r.some_hop)))

pub returns-then-route-gt-LAST_HOP : goal.returns-then-route-gt-LAST_HOP
returns-then-route-gt-LAST_HOP c = sym (stops (is_route? _) (λ r. omega (arith, r.hop_fits)))

pub returns : goal.returns
returns c =
    c.well_formed-2.ensures
    ∙ same_test (well_formed? _)
    (iff? (is_route? _) (λ r. r.formed)
    (λ w. record { formed = w; some_hop = omega arith; hop_fits = omega arith }))
