-- `Live::pass` meets its contract. The invariant is `Passing`: the rules before i have an address below the block's end, and `opened`
-- says whether one of those that were passed is longer than 24. Assumes nothing.
use lib.ListN.{length}
use Rattle.rules.proofs.Cursor.{Passing}
use Rattle.rules.proofs.live.Live.pass.Given as goal

abbrev pub invariant-loop-i : goal.invariant-loop-i
invariant-loop-i l = Passing l.self.words.now (length l.self.words.now) l.start l.at l.i l.opened
