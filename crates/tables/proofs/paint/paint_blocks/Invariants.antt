-- `paint::paint_blocks` meets its contract. The loop's invariant: the blocks before `block` are painted, and `changed` of their cells differ.
-- Assumes nothing.
use Rattle.tables.specs.Cellwise.{paint_cell}
use Rattle.tables.specs.inner.Ranges.{BlocksChanged}
use Rattle.cells.specs.Memory.{tables_of}
use Rattle.tables.proofs.paint.paint_blocks.Given as goal

abbrev pub invariant-loop-block : goal.invariant-loop-block
invariant-loop-block l =
    BlocksChanged l.territory (λ a. paint_cell l.length l.new) l.from l.block (tables_of l.initial.first l.initial.long l.owners) l.first l.long l.changed
