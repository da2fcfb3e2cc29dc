-- `fill::open_and_paint` meets its contract: the segment filled with the block's former cell, and in the prefix's run with that cell painted,
-- is the segment opened and then painted. Assumes nothing.
use native.Mathlib.Omega.{arith}
use Rattle.tables.specs.inner.Ranges.{InSegment}
use Rattle.tables.proofs.Ranges.{run_small}
use Rattle.tables.proofs.Opening.{block_in, run_in_segment, opened_and_changed}
use Rattle.tables.proofs.fill.open_and_paint.Goals.{After-prefix_cells-run}
use Rattle.tables.proofs.fill.open_and_paint.Goals as goal

pub bounds-first-block : goal.bounds-first-block
bounds-first-block c = omega (arith, block_in c.requires.openable c.requires.block_of_prefix)

-- the prefix's run is in the segment
run : (c : After-prefix_cells-run) → InSegment c.segment_start-at.result c.prefix_cells-run.result.start c.prefix_cells-run.result.end c.args.long.now
run c = run_in_segment c.requires.openable c.requires.block_of_prefix c.segment_start-at.ensures c.prefix_cells-run.ensures

pub fill_segment-changed-requires : goal.fill_segment-changed-requires
fill_segment-changed-requires c = run (goal.at.fill_segment-changed-requires c).After-prefix_cells-run

pub bounds-first-block-2 : goal.bounds-first-block-2
bounds-first-block-2 c = omega (arith, block_in c.requires.openable c.requires.block_of_prefix)

pub overflow_add-result : goal.overflow_add-result
overflow_add-result c =
    omega (arith, run_small c.fill_segment-changed.ensures, (run (goal.at.overflow_add-result c).After-prefix_cells-run).small)

pub returns : goal.returns
returns c =
    opened_and_changed c.requires.openable c.requires.block_of_prefix c.segment_start-at.ensures c.prefix_cells-run.ensures _ (λ a. c.paint_cell-painted.ensures)
    (omega arith) c.point_to.ensures (omega arith) c.fill_segment-changed.ensures
