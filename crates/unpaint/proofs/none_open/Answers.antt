-- The goal that the check leaves: where the sum is 0, each of its terms is.
use mathlib.Core.Path.{◌≡◌}
use Prim.Native.Nat.{ℕ, ◌/◌}
use native.Mathlib.Omega.{arith}
use borrow.Author.Rules.{rules}
use borrow.Author.Tests.{eqb-true}
use Rattle.std.specs.Prelude.{sum_by}
use Rattle.std.proofs.lemmas.List.Sums.{get_or-le-sum_by}
use Rattle.cells.specs.Cells.{pointer_bit}
use Rattle.unpaint.proofs.none_open.Goals as goal

pub returns : goal.returns
returns c z k d h =
    let total : c.sum.result ≡ sum_by (λ (x : ℕ). x / pointer_bit) c.args.first.now = search rules in
    omega (arith, eqb-true _ _ z, get_or-le-sum_by (λ (x : ℕ). x / pointer_bit) c.args.first.now k d h)
