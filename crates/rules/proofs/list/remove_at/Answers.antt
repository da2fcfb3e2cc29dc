-- `list::remove_at` meets its contract, by the copy of the words after the place. Assumes nothing.
use mathlib.Core.Path.{ap, ◌∙◌}
use mathlib.Core.List.{List}
use Prim.Native.Nat.{ℕ, ◌-◌}
use lib.ListN.{set}
use Rattle.rules.proofs.Shifts.{removed}
use Rattle.rules.proofs.list.remove_at.Goals as goal

pub returns : goal.returns
returns c =
    let s = c.args in
    ap (λ (xs : List ℕ). set xs (s.used - 1) 0) c.copy_within.ensures.after ∙ removed s.rules.now s.used s.at c.requires.0 c.requires.1
