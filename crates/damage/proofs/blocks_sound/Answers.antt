-- `blocks_sound` meets its contract: the walk starts at the first block, with the cursor at that block's start. Assumes nothing.
use mathlib.Core.Path.{subst}
use Prim.Native.Nat.{ℕ}
use lib.ListN.{length}
use native.Mathlib.Omega.{arith}
use Rattle.rules.specs.inner.Blocks.{CursorAt}
use Rattle.damage.proofs.Turns.{start_within}
use Rattle.damage.proofs.blocks_sound.Goals as goal

pub block_start-start-requires : goal.block_start-start-requires
block_start-start-requires c = start_within c.requires.0 (omega (arith, c.well_formed)) c.args.blocks.from c.requires.1.first

pub walk-requires : goal.walk-requires
walk-requires c =
    record {
      sized = c.requires.0;
      lent = c.requires.1;
      cursor = subst (λ (a : ℕ). CursorAt c.args.live.words.now (length c.args.live.words.now) a c.cursor_at.result) c.block_start-start.ensures c.cursor_at.ensures;
    }
