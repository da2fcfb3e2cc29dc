-- `Prefix::is_territory` meets its contract: past 24 nothing is a territory, and up to 24 each prefix with no bit after its length
-- is. Assumes nothing.
use Rattle.std.proofs.Common.{ℕ, arith, sym, ap, ◌∙◌, eqb}
use Rattle.ground.proofs.Tests.{iff?, stops, same_test}
use Rattle.prefix.specs.Prefixes.{span}
use Rattle.prefix.proofs.Prefixes.{clear?}
use Rattle.prefix.proofs.Spans.{is_territory?}
use Rattle.prefix.proofs.Prefix.is_territory.Goals as goal

pub returns-then-length-gt-WIDTH : goal.returns-then-length-gt-WIDTH
returns-then-length-gt-WIDTH c = sym (stops (is_territory? c.args.self) (λ t. omega (arith, t.wide)))

pub returns : goal.returns
returns c =
    let p = c.args.self in
    ap (λ (x : ℕ). eqb x p.address) c.cleared.ensures
    ∙ same_test (clear? p.address (span p.length))
    (iff? (is_territory? p) (λ t. t.formed.clear) (λ z. record { wide = omega arith; formed = record { short = omega arith; clear = z } }))
