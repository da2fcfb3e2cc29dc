-- `pass` meets its contract: the step ran at each answer before i, and the others are as they were. Assumes nothing.
use Rattle.std.proofs.Common.{◌≡◌, ℕ, ◌<◌, ◌≤◌, get_or}
use Rattle.bulk.proofs.pass.Given as goal

abbrev pub invariant-loop-i : goal.invariant-loop-i
invariant-loop-i g l =
    ((j : ℕ) → j < l.i → goal.F-post g l.step (get_or l.addresses j 0) (get_or l.initial.answers j 0) (get_or l.answers j 0))
    × ((j : ℕ) → l.i ≤ j → get_or l.answers j 0 ≡ get_or l.initial.answers j 0)
