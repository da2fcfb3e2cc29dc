-- The goals that the check leaves.
use Prim.Native.Nat.{◌+◌}
use native.Mathlib.Nat.{le_refl}
use native.Mathlib.Omega.{arith}
use borrow.Author.Rules.{rules}
use Rattle.cells.specs.Memory.{tables_of}
use Rattle.rules.specs.Rules.{routes}
use Rattle.runs.proofs.Covered.{kept_later}
use Rattle.tables.specs.Cellwise.{unpaint_cell}
use Rattle.tables.specs.inner.Ranges.{BlocksChanged}
use Rattle.tables.proofs.Blocks.{blocks_none, few_blocks, blocks_then, ready_then}
use Rattle.unpaint.specs.inner.Unpaint.{passed}
use Rattle.unpaint.proofs.Unpainting.{blocks_passed}
use Rattle.unpaint.proofs.Withdrawal.unpaint_blocks.Goals.{After-unpaint_some-some}
use Rattle.unpaint.proofs.Withdrawal.unpaint_blocks.Goals as goal

-- one turn repaints the blocks that it passes over, which stay, and some after them
turned : (c : After-unpaint_some-some) → let a = c.args in let some = c.unpaint_some-some in
    BlocksChanged a.territory (unpaint_cell a.self.length (routes a.self.live.words.now)) a.from some.result.1 (tables_of a.first.now a.long.now a.owners.now)
    some.new.first some.new.long (c.loop-block.changed + some.result.0)
turned c =
    let inv = c.loop-block.invariant in
    let found = c.in-Some.ensures.found in
    let some = c.unpaint_some-some.ensures in
    let passed = c.in-Some.ensures.passed (passed c.args.self.length) (λ x y h. search rules) in
    let over = blocks_passed c.args.self.length (routes c.args.self.live.words.now) inv.2.blocks inv.0 found.0 passed in
    blocks_then over (omega (arith, inv.0, found)) (omega (arith, some.some)) some.done.blocks

pub loop-block-init : goal.loop-block-init
loop-block-init c = (le_refl _, c.requires.blocks_ready.ordered, record { blocks = blocks_none _ _ _ _; kept = c.requires.kept })

pub unpaint_some-some-requires-clause-blocks_ready : goal.unpaint_some-some-requires-clause-blocks_ready
unpaint_some-some-requires-clause-blocks_ready c =
    let inv = c.loop-block.invariant in
    let found = c.in-Some.ensures.found in
    let passed = c.in-Some.ensures.passed (passed c.args.self.length) (λ x y h. search rules) in
    let over = blocks_passed c.args.self.length (routes c.args.self.live.words.now) inv.2.blocks inv.0 found.0 passed in
    ready_then over (omega (arith, inv.0, found)) (omega (arith, found)) (le_refl _) c.requires.blocks_ready

pub overflow_add-changed : goal.overflow_add-changed
overflow_add-changed c = record { fits = few_blocks (turned (goal.at.overflow_add-changed c).After-unpaint_some-some) c.requires.blocks_ready }

pub loop-block-preserved : goal.loop-block-preserved
loop-block-preserved c =
    let some = c.unpaint_some-some.ensures in (
      omega (arith, c.loop-block.invariant.0, c.in-Some.ensures.found, some.some),
      some.within,
      record { blocks = turned (goal.at.loop-block-preserved c).After-unpaint_some-some; kept = some.done.kept },
    )

pub returns : goal.returns
returns c =
    let inv = c.loop-block.invariant in
    record {
      blocks = blocks_passed c.args.self.length (routes c.args.self.live.words.now) inv.2.blocks inv.0 inv.1
          (c.in_default.ensures.passed (passed c.args.self.length) (λ x y h. search rules));
      kept = kept_later (omega (arith, inv.1)) inv.2.kept;
    }
