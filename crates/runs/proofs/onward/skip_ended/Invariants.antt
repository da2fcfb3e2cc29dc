-- `onward::skip_ended` meets its contract. The loop's invariant: the words before index i started, and those from the first on do not
-- contain the address. Assumes nothing.
use lib.ListN.{length}
use Rattle.runs.proofs.Covered.{Skipping}
use Rattle.runs.proofs.onward.skip_ended.Given as goal

abbrev pub invariant-loop-i : goal.invariant-loop-i
invariant-loop-i l = Skipping l.live.words.now (length l.live.words.now) l.address l.from l.i
