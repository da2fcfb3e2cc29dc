-- `list::insert_at` meets its contract, by the copy of the words after the place. Assumes nothing.
use mathlib.Core.Path.{ap, ◌∙◌}
use mathlib.Core.List.{List}
use Prim.Native.Nat.{ℕ}
use lib.ListN.{set}
use Rattle.rules.proofs.Shifts.{inserted}
use Rattle.rules.proofs.list.insert_at.Goals as goal

pub returns : goal.returns
returns c =
    let s = c.args in
    ap (λ (xs : List ℕ). set xs s.at s.word) c.copy_within.ensures.after ∙ inserted s.rules.now s.used s.at s.word c.requires.0 c.requires.1
