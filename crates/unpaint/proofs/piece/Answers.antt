-- `piece` meets its contract: the piece is the number of blocks that are asked for, or one where a pointer is among them. Assumes
-- nothing.
use native.Mathlib.Omega.{arith}
use Rattle.unpaint.proofs.Unpainting.{closed_part}
use Rattle.unpaint.proofs.piece.Goals as goal

pub returns-then-none_open : goal.returns-then-none_open
returns-then-none_open c =
    record {
      some = omega arith;
      within = omega arith;
      few = omega arith;
      fit = omega arith;
      closed = closed_part c.args.first.now (c.none_open.ensures c.if-none_open.true) (omega arith) (omega (arith, c.requires.inside.inside));
    }
