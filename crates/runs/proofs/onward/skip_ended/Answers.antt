-- The goals that the check leaves.
use mathlib.Core.Path.{sym, ◌∙◌}
use native.Mathlib.Omega.{arith}
use Rattle.ground.proofs.Tests.{denies}
use Rattle.prefix.proofs.Prefixes.{contains?}
use Rattle.rules.proofs.AllLive.{ordered_listed}
use Rattle.runs.proofs.Covered.{skip_more, skip_later, skip_done}
use Rattle.runs.proofs.onward.skip_ended.Goals as goal

pub returns-then-address-prefix : goal.returns-then-address-prefix
returns-then-address-prefix c =
    skip_later (ordered_listed c.args.live.ordered) c.loop-i.invariant (omega arith) c.prefix-prefix.ensures (omega arith)

pub loop-i-preserved : goal.loop-i-preserved
loop-i-preserved c =
    skip_more (ordered_listed c.args.live.ordered) c.loop-i.invariant (omega arith) c.prefix-prefix.ensures (omega arith)
    (denies (contains? _ _) (sym c.contains.ensures ∙ c.if-contains.false))

pub returns : goal.returns
returns c = skip_done (ordered_listed c.args.live.ordered) c.loop-i.invariant (omega arith)
