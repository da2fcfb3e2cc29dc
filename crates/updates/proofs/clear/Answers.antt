-- `clear` meets its contract: a refusal writes nothing, and else each slice is set to 0. Assumes nothing.
use Rattle.std.proofs.lemmas.Result.{err_from_is_err_and}
use Rattle.cells.specs.Memory.{lent_of}
use Rattle.updates.specs.Effects.{cleared}
use Rattle.updates.proofs.Outcomes.{clear-refused, clear-accepted}
use Rattle.updates.proofs.clear.Goals as goal

pub returns-in_err-clear_checked : goal.returns-in_err-clear_checked
returns-in_err-clear_checked c =
    let p = err_from_is_err_and c.from_residual.result c.from_residual.ensures.1 in
    rw (p.1, p.2) (clear-refused c.args.territory (lent_of c.args.first.now c.args.long.now c.args.owners.now c.args.rules.now) _ c.in_err-clear_checked.ensures)

pub returns : goal.returns
unfolding cleared
returns c =
    clear-accepted c.args.territory (lent_of c.args.first.now c.args.long.now c.args.owners.now c.args.rules.now) c.in_ok-clear_checked.ensures
    (c.fill.ensures.after (λ y e. e)) (c.fill-2.ensures.after (λ y e. e)) (c.fill-3.ensures.after (λ y e. e)) (c.fill-4.ensures.after (λ y e. e))
