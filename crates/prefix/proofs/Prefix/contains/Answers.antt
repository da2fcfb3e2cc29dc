-- `Prefix::contains` meets its contract: cleared after the length, two addresses are equal exactly if their first bits are.
-- Assumes nothing.
use Rattle.std.proofs.Common.{arith}
use Rattle.ground.proofs.Tests.{eqb?, iff?, same_test}
use Rattle.prefix.proofs.Prefixes.{contains?, contains-cleared}
use Rattle.prefix.proofs.Prefix.contains.Goals as goal

pub returns : goal.returns
returns c =
    let s = c.args in
    let law = contains-cleared s.self s.address in
    same_test (eqb? c.cleared.result c.cleared-2.result)
    (iff? (contains? s.self s.address) (λ h. omega (arith, law.0 h)) (λ e. law.1 (omega arith)))
