-- `Place::climb` meets its contract. The loop's invariant: `count` words are up to the prefix of the length around the address, and no route
-- that contains the address is longer. The measure is the length. Assumes nothing.
use lib.ListN.{length}
use Rattle.runs.proofs.Places.{Climbing}
use Rattle.runs.proofs.Place.climb.Given as goal

abbrev pub invariant-loop-word : goal.invariant-loop-word
invariant-loop-word l = Climbing l.self.live.words.now (length l.self.live.words.now) l.self.address l.length l.count

abbrev pub decreases-loop-word : goal.decreases-loop-word
decreases-loop-word l = l.length
