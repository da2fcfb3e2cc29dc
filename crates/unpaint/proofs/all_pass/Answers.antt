-- The goals that the check leaves.
use mathlib.Core.Path.{sym, ◌∙◌}
use native.Mathlib.Omega.{arith}
use Rattle.std.proofs.lemmas.Bool.{and_parts}
use Rattle.unpaint.proofs.Unpainting.{each_more}
use Rattle.unpaint.proofs.all_pass.Goals as goal

pub loop-cell-preserved : goal.loop-cell-preserved
loop-cell-preserved g c test h all =
    let both = and_parts _ _ all in
    each_more _ (c.loop-cell.invariant test h both.0) (sym (h _ _ c.passes-all.ensures) ∙ both.1)

pub returns : goal.returns
returns g c test h all k low high = c.loop-cell.invariant test h all k low (omega arith)
