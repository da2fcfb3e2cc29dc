-- `Place::run` meets its contract: the run ends at the next start, or where its cell may end to hold. Assumes nothing.
use native.Mathlib.Omega.{arith}
use Rattle.rules.proofs.AllLive.{ordered_listed}
use Rattle.runs.proofs.Covered.{run_held}
use Rattle.runs.proofs.Place.run.Goals as goal

pub returns : goal.returns
returns c =
    let place = c.args.self in
    let next = c.next.ensures in
    run_held place.address (ordered_listed place.live.ordered) place.counted c.requires next (omega arith) (omega arith)
    (omega (arith, next.past, c.requires.past))
