-- `paint::paint_block` meets its contract. Where the block's first cell is a pointer, its segment is painted and nothing else is; where it is
-- not, that cell is. Assumes nothing.
use mathlib.Core.Path.{sym, ◌∙◌}
use native.Mathlib.Omega.{arith}
use borrow.Author.Rules.{rules}
use borrow.Author.Tests.{leb-true, leb-false}
use Rattle.cells.specs.Memory.{tables_of}
use Rattle.tables.specs.Cellwise.{paint_cell}
use Rattle.tables.specs.inner.Ready.{segment_at, Owns}
use Rattle.tables.proofs.Blocks.{block_direct, block_points, owns_one}
use Rattle.tables.proofs.paint.paint_block.Goals.{Then-is_pointer}
use Rattle.tables.proofs.paint.paint_block.Goals as goal

-- the first cell is a pointer, and the segment is the block's own
owns : (c : Then-is_pointer) → let a = c.args in let T = tables_of a.first.now a.long.now a.owners.now in Owns T a.block (segment_at T a.block)
owns c = owns_one c.requires (leb-true _ _ (sym c.is_pointer.ensures ∙ c.if-is_pointer.true))

pub returns-then-is_pointer : goal.returns-then-is_pointer
returns-then-is_pointer c =
    let run = c.segment_cells-run.ensures in
    block_points _ _ (owns (goal.at.returns-then-is_pointer c).Then-is_pointer) (omega (arith, run.low)) (omega (arith, run.high)) (c.change_run.ensures.changed (paint_cell c.args.length c.args.new) (λ x y h. search rules))

pub returns : goal.returns
returns c =
    block_direct _ _ (omega arith) (leb-false _ _ (sym c.is_pointer.ensures ∙ c.if-is_pointer.false)) c.paint_cell-next.ensures
    c.differ.ensures
