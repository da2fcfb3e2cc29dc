-- The goals that the check leaves.
use mathlib.Core.Path.{sym, ◌∙◌}
use native.Mathlib.Omega.{arith}
use Rattle.unpaint.proofs.Unpainting.{each_more, pass_more}
use Rattle.unpaint.proofs.pass_over.Goals as goal

pub loop-next-preserved : goal.loop-next-preserved
loop-next-preserved g c =
    let inv = c.loop-next.invariant in (
      omega (arith, inv.0),
      omega arith,
      λ test h. pass_more test c.args.cells.now (inv.2 test h) (c.all_pass.ensures test h c.if-all_pass.true) (omega (arith, c.requires.inside.inside)),
    )

pub loop-i-preserved : goal.loop-i-preserved
loop-i-preserved g c test h = each_more _ (c.loop-i.invariant test h) (sym (h _ _ c.passes.ensures) ∙ c.if-not-passes.false)

pub returns-clause-passed : goal.returns-clause-passed
returns-clause-passed g c test h k low high = c.loop-i.invariant test h k low (omega arith)
