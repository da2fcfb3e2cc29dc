-- `Prefix::well_formed` meets its contract: past 32 no prefix is well formed, and up to 32 the mask clears the bits after the
-- length. Assumes nothing.
use Rattle.std.proofs.Common.{arith, sym}
use Rattle.ground.proofs.Tests.{stops}
use Rattle.prefix.proofs.Prefixes.{well_formed?}
use Rattle.prefix.proofs.Masks.{clear_by_mask}
use Rattle.prefix.proofs.Prefix.well_formed.Goals as goal

pub returns-then-length-gt32 : goal.returns-then-length-gt32
returns-then-length-gt32 c = sym (stops (well_formed? c.args.self) (λ w. omega (arith, w.short)))

pub returns : goal.returns
returns c = clear_by_mask c.args.self c.mask.result (omega arith) (omega arith) c.mask.ensures
