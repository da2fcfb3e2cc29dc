-- `Live::find` meets its contract: past the last word the prefix is not live, and before it is live exactly if the word at its place has
-- its key. Assumes nothing.
use native.Mathlib.Omega.{arith}
use Rattle.rules.proofs.AllLive.{ordered_listed}
use Rattle.rules.proofs.Searches.{place_past, place_found, place_missed}
use Rattle.rules.proofs.live.Live.find.Goals as goal

pub returns-then-at-self : goal.returns-then-at-self
returns-then-at-self c =
    place_past (ordered_listed c.args.self.ordered) c.requires c.key_of-key.ensures c.position-at.ensures (omega arith)

pub returns-then-key : goal.returns-then-key
returns-then-key c =
    place_found (ordered_listed c.args.self.ordered) c.requires c.key_of-key.ensures c.position-at.ensures _ (omega arith) c.key.ensures c.if-key.true

pub returns-else-key : goal.returns-else-key
returns-else-key c =
    place_missed (ordered_listed c.args.self.ordered) c.requires c.key_of-key.ensures c.position-at.ensures _ (omega arith) c.key.ensures c.if-key.false
