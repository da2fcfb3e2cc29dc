-- `within` meets its contract: past the end there is no word. Assumes nothing.
use Rattle.std.proofs.Common.{sym, ap, arith}
use Rattle.std.proofs.Math.ListN.{drop_of_length-le}
use Rattle.sheet.specs.Sheet.{within}
use Rattle.sheet.proofs.within.Goals as goal

pub returns-in-None : goal.returns-in-None
unfolding within
returns-in-None c = sym (ap within (drop_of_length-le c.args.words.now (omega (arith, c.in-None.ensures.lookup))))
