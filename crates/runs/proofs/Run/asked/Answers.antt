-- `Run::asked` meets its contract: it searches anew, or the cell holds again. Assumes nothing.
use native.Mathlib.Omega.{arith}
use Rattle.rules.proofs.AllLive.{ordered_listed}
use Rattle.runs.proofs.Covered.{holds_on}
use Rattle.runs.proofs.Run.asked.Goals as goal

pub run-requires : goal.run-requires
run-requires c = holds_on (ordered_listed c.args.live.ordered) c.requires c.in-Some.ensures (omega arith)
