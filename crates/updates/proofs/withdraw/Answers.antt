-- `withdraw` meets its contract: the number that was checked is the call's, and what it hands on can be taken out. Assumes nothing.
use Rattle.std.proofs.lemmas.Result.{err_from_is_err_and}
use Rattle.cells.specs.Memory.{lent_of}
use Rattle.refusals.specs.Codes.{withdraws}
use Rattle.updates.proofs.Taking.{withdraw_takable}
use Rattle.updates.proofs.Outcomes.{refuses, steps}
use Rattle.updates.proofs.withdraw.Goals as goal

pub returns-in_err-checked : goal.returns-in_err-checked
returns-in_err-checked c =
    let p = err_from_is_err_and c.from_residual.result c.from_residual.ensures.1 in
    rw (p.1, p.2) (refuses c.args.territory (withdraws c.args.prefix) (lent_of c.args.first.now c.args.long.now c.args.owners.now c.args.rules.now) _ c.in_err-checked.ensures.number)

pub take_checked-cells-requires : goal.take_checked-cells-requires
take_checked-cells-requires c = withdraw_takable c.in_ok-checked.ensures

pub returns : goal.returns
returns c =
    steps c.args.territory (withdraws c.args.prefix) (lent_of c.args.first.now c.args.long.now c.args.owners.now c.args.rules.now) c.in_ok-checked.ensures.number c.take_checked-cells.ensures
