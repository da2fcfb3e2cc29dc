-- The goals that the check leaves.
use native.Mathlib.Nat.{le_antisymm}
use native.Mathlib.Omega.{arith}
use Rattle.tables.proofs.Blocks.{blocks_none, few_blocks, blocks_then, ready_then}
use Rattle.tables.proofs.paint.paint_blocks.Goals as goal

pub loop-block-init : goal.loop-block-init
loop-block-init c = blocks_none _ _ _ _

pub paint_block-changed-requires : goal.paint_block-changed-requires
paint_block-changed-requires c = ready_then c.loop-block.invariant c.loop-block.auto.block (omega arith) (omega arith) c.requires

pub loop-block-preserved : goal.loop-block-preserved
loop-block-preserved c = blocks_then c.loop-block.invariant c.loop-block.auto.block (omega arith) c.paint_block-changed.ensures

-- the sum is the count of the next turn's invariant
pub overflow_add-changed : goal.overflow_add-changed
overflow_add-changed c =
    let then = blocks_then c.loop-block.invariant c.loop-block.auto.block (omega arith) c.paint_block-changed.ensures in
    record { fits = few_blocks then c.requires }

pub returns : goal.returns
returns c = let done = le_antisymm (c.loop-block.auto.block-end c.requires.ordered) c.loop-block-test.false in rw done at c.loop-block.invariant
