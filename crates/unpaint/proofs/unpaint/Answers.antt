-- `unpaint` meets its contract. A prefix of length up to 24 is a run of blocks; a longer one is a run of cells in its block's
-- segment. The run kept at first is that of the prefix's own address. Assumes nothing.
use mathlib.Core.Path.{◌≡◌, ap}
use Prim.Native.Nat.{◌+◌}
use native.Mathlib.Omega.{arith}
use Rattle.prefix.specs.declared.geometry.Blocks.{Blocks}
use Rattle.prefix.specs.Geometry.{block_of}
use Rattle.prefix.proofs.Prefixes.{ends_within}
use Rattle.prefix.proofs.Spans.{starts}
use Rattle.cells.specs.Memory.{tables_of}
use Rattle.rules.specs.Rules.{routes}
use Rattle.runs.proofs.Covered.{kept_later}
use Rattle.tables.specs.Cellwise.{unpaint_cell}
use Rattle.tables.specs.inner.Ready.{Closable}
use Rattle.tables.specs.inner.Ranges.{BlocksReady}
use Rattle.tables.proofs.Repaints.{blocks_ready, blocks-repainted, closable, run_within, run_counted, run_repainted}
use Rattle.unpaint.proofs.unpaint.Goals.{Else-prefix-le-WIDTH, Start, Then-prefix-le-WIDTH}
use Rattle.unpaint.proofs.unpaint.Goals as goal

-- the first block is that of the prefix
from : (c : Start) → c.args.blocks.from ≡ block_of c.args.territory c.args.prefix.address
from c = ap (λ (x : Blocks). x.from) c.requires.touched_blocks

-- the blocks of a prefix of length up to 24
ready : (c : Then-prefix-le-WIDTH) → let a = c.args in
    BlocksReady a.territory a.blocks.from (a.blocks.from + a.blocks.count) (tables_of a.first.now a.long.now a.owners.now)
ready c = blocks_ready c.requires.repaintable.ready c.if-prefix-le-WIDTH.true c.requires.touched_blocks

-- the open block of a longer one
open_block : (c : Else-prefix-le-WIDTH) → let a = c.args in Closable a.territory a.prefix (tables_of a.first.now a.long.now a.owners.now)
open_block c = closable c.requires.repaintable c.if-prefix-le-WIDTH.false

pub unpaint_blocks-requires : goal.unpaint_blocks-requires
unpaint_blocks-requires c =
    let at = goal.at.unpaint_blocks-requires c in
    let pre = c.requires.repaintable.ready in
    let start = starts pre.sized.territory pre.formed pre.inside c.if-prefix-le-WIDTH.true in
    record { blocks_ready = ready at.Then-prefix-le-WIDTH; kept = kept_later (omega (arith, from at.Start)) c.longest-run.ensures.kept }

pub returns-then-prefix-le-WIDTH : goal.returns-then-prefix-le-WIDTH
returns-then-prefix-le-WIDTH c =
    blocks-repainted c.requires.repaintable.ready c.if-prefix-le-WIDTH.true c.requires.touched_blocks _ c.unpaint_blocks.ensures.blocks

pub unpaint_run-requires : goal.unpaint_run-requires
unpaint_run-requires c =
    let at = goal.at.unpaint_run-requires c in
    let run = c.prefix_cells-part.ensures in
    let small = ends_within c.requires.repaintable.ready.formed (omega arith) in record { within = run_within (open_block at.Else-prefix-le-WIDTH) (from at.Start) c.segment.ensures run; in_range = omega (arith, run.high, small); kept = c.longest-run.ensures.kept }

pub returns : goal.returns
returns c =
    let at = goal.at.returns c in
    let run = c.prefix_cells-part.ensures in
    let f = unpaint_cell c.args.prefix.length (routes c.args.live.words.now) in
    let o = open_block at.Else-prefix-le-WIDTH in
    run_repainted o (from at.Start) c.segment.ensures run f (run_counted o (from at.Start) c.segment.ensures run f c.unpaint_run.ensures.changed)
