-- `place::prefix_cells` meets its contract: a segment's number times 256 and a place in it fit easily. Assumes nothing.
use Prim.Native.Nat.{◌-◌}
use native.Mathlib.Omega.{arith}
use lib.Pow.{pow_mono}
use Rattle.tables.proofs.place.prefix_cells.Goals as goal

pub overflow_add-result : goal.overflow_add-result
overflow_add-result c =
    omega (arith, pow_mono {i = 32 - c.args.prefix.length} {j = 7} (omega (arith, c.requires.is_long.0)), c.span_of.ensures)
