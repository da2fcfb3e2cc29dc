-- `Place::next` meets its contract: the words up to the address start at it or before, and the first after them is the next to start.
-- Assumes nothing.
use native.Mathlib.Omega.{arith}
use Rattle.rules.proofs.AllLive.{ordered_listed}
use Rattle.runs.proofs.Places.{next_none, next_some}
use Rattle.runs.proofs.Place.next.Goals as goal

pub returns-in-Some : goal.returns-in-Some
returns-in-Some c =
    let place = c.args.self in
    let here = c.in-Some.ensures.lookup.3 in
    next_some place.address (ordered_listed place.live.ordered) place.counted here.0 (here.1 0) c.address.ensures (omega (arith, c.address.type_inv))

pub returns-in-None : goal.returns-in-None
returns-in-None c =
    let place = c.args.self in
    next_none place.address (ordered_listed place.live.ordered) place.counted (omega (arith, c.in-None.ensures.lookup)) (omega arith)
