-- `blocks::is_open` meets its contract: past the rules of the block the cursor knows whether one opens it. Assumes nothing.
use native.Mathlib.Omega.{arith}
use Rattle.rules.proofs.live.Live.is_open.Goals as goal

pub pass-requires : goal.pass-requires
pass-requires c = record { cursor_at = c.cursor_at.ensures; aligned = (c.requires, omega (arith, c.ranges.start)) }
