-- `prefix::mask` meets its contract: antt computes the rule at the 33 lengths, and the table is what comes out. Assumes nothing.
use Rattle.std.proofs.Common.{arith}
use Rattle.ground.proofs.Table.{entry}
use Rattle.prefix.specs.Prefixes.{mask_of}
use Rattle.prefix.proofs.mask.Goals as goal

pub returns : goal.returns
returns c = entry 33 mask_of c.args.length (omega arith)
