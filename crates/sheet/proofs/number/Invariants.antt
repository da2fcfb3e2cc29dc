-- The invariant of `number`: the first i places hold 1, 2, .. i. Assumes nothing.
use Rattle.sheet.proofs.Counts.{Numbered}
use Rattle.sheet.proofs.number.Given as goal

abbrev pub invariant-loop-i : goal.invariant-loop-i
invariant-loop-i l = Numbered l.hops l.i
