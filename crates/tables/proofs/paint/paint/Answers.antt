-- `paint::paint` meets its contract. A prefix of length up to 24 is a run of blocks; a longer one is a run of cells in its block's segment.
-- Assumes nothing.
use mathlib.Core.Path.{◌≡◌, ap}
use Prim.Native.Nat.{◌+◌}
use borrow.Author.Rules.{rules}
use Rattle.prefix.specs.declared.geometry.Blocks.{Blocks}
use Rattle.prefix.specs.Geometry.{block_of}
use Rattle.cells.specs.Memory.{tables_of}
use Rattle.tables.specs.Cellwise.{paint_cell}
use Rattle.tables.specs.inner.Ready.{Closable}
use Rattle.tables.specs.inner.Ranges.{BlocksReady}
use Rattle.tables.proofs.Repaints.{blocks_ready, blocks-repainted, closable, run_within, run_repainted}
use Rattle.tables.proofs.paint.paint.Goals.{Else-length-le-WIDTH, Start, Then-length-le-WIDTH}
use Rattle.tables.proofs.paint.paint.Goals as goal

-- the first block is that of the prefix
from : (c : Start) → c.args.blocks.from ≡ block_of c.args.territory c.args.prefix.address
from c = ap (λ (x : Blocks). x.from) c.requires.touched_blocks

-- the blocks of a prefix of length up to 24
ready : (c : Then-length-le-WIDTH) → let a = c.args in
    BlocksReady a.territory a.blocks.from (a.blocks.from + a.blocks.count) (tables_of a.first.now a.long.now a.owners.now)
ready c = blocks_ready c.requires.repaintable.ready c.if-length-le-WIDTH.true c.requires.touched_blocks

-- the open block of a longer one
open_block : (c : Else-length-le-WIDTH) → let a = c.args in Closable a.territory a.prefix (tables_of a.first.now a.long.now a.owners.now)
open_block c = closable c.requires.repaintable c.if-length-le-WIDTH.false

pub paint_blocks-requires : goal.paint_blocks-requires
paint_blocks-requires c = ready (goal.at.paint_blocks-requires c).Then-length-le-WIDTH

pub returns-then-length-le-WIDTH : goal.returns-then-length-le-WIDTH
returns-then-length-le-WIDTH c =
    blocks-repainted c.requires.repaintable.ready c.if-length-le-WIDTH.true c.requires.touched_blocks _ c.paint_blocks.ensures

pub change_run-requires-clause-within : goal.change_run-requires-clause-within
change_run-requires-clause-within c =
    let at = goal.at.change_run-requires-clause-within c in
    run_within (open_block at.Else-length-le-WIDTH) (from at.Start) c.segment.ensures c.prefix_cells-run.ensures

pub returns : goal.returns
returns c =
    let at = goal.at.returns c in
    run_repainted (open_block at.Else-length-le-WIDTH) (from at.Start) c.segment.ensures c.prefix_cells-run.ensures _ (c.change_run.ensures.changed (paint_cell c.args.prefix.length c.args.new) (λ x y h. search rules))
