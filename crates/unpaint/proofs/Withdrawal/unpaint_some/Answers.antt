-- `unpaint_some` meets its contract. Where the first block's cell is a pointer, its segment is repainted and nothing else is; where
-- it is not, a piece of first cells takes the cell of the run. Assumes nothing.
use mathlib.Core.Path.{sym, ◌∙◌}
use Prim.Native.Nat.{◌+◌, ◌^◌, ◌≤◌}
use native.Mathlib.Nat.{le_refl}
use native.Mathlib.Omega.{arith}
use borrow.Author.Tests.{leb-true}
use borrow.Author.Rules.{rules}
use Rattle.prefix.specs.Geometry.{block_start}
use Rattle.cells.specs.Memory.{tables_of}
use Rattle.rules.specs.Rules.{routes}
use Rattle.runs.proofs.Covered.{kept_later}
use Rattle.tables.specs.Cellwise.{unpaint_cell}
use Rattle.tables.specs.inner.Ready.{segment_at, Owns}
use Rattle.unpaint.specs.inner.Unpaint.{KeptAt, replaced}
use Rattle.tables.proofs.Blocks.{block_points, segment_within, run_addressed, block_ends}
use Rattle.unpaint.proofs.Unpainting.{run_taken, blocks_closed}
use Rattle.unpaint.proofs.Withdrawal.unpaint_some.Goals.{After-block_start-start, Start, Then-is_pointer}
use Rattle.unpaint.proofs.Withdrawal.unpaint_some.Goals as goal

-- the first block ends within the addresses
end : (c : Start) → block_start c.args.territory (c.args.block + 1) ≤ 2 ^ 32
end c = block_ends c.requires.blocks_ready.sized (omega arith) (omega (arith, c.requires.blocks_ready.within))

-- the first cell is a pointer, and the segment is the block's own
owns : (c : Then-is_pointer) → let a = c.args in let T = tables_of a.first.now a.long.now a.owners.now in Owns T a.block (segment_at T a.block)
owns c =
    c.requires.blocks_ready.owned c.args.block (le_refl _) (omega arith) (leb-true _ _ (sym c.is_pointer.ensures ∙ c.if-is_pointer.true))

-- the run that is kept may be asked from there
asking : (c : After-block_start-start) → let a = c.args in KeptAt a.self.live.words.now c.block_start-start.result a.run.now
asking c =
    kept_later (omega (arith, c.block_start-start.ensures)) c.requires.kept

pub block_start-start-requires : goal.block_start-start-requires
block_start-start-requires c = omega (arith, end (goal.at.block_start-start-requires c).Start)

pub unpaint_run-changed-requires : goal.unpaint_run-changed-requires
unpaint_run-changed-requires c =
    let at = goal.at.unpaint_run-changed-requires c in
    let run = c.segment_cells-part.ensures in record { within = segment_within c.requires.blocks_ready.sized (owns at.Then-is_pointer) (omega (arith, run.low)) (omega (arith, run.high)) (omega (arith, run.low, run.high)); in_range = omega (arith, run.high, c.block_start-start.ensures, end at.Start); kept = asking at.After-block_start-start }

pub returns-then-is_pointer : goal.returns-then-is_pointer
returns-then-is_pointer c =
    let at = goal.at.returns-then-is_pointer c in
    let a = c.args in
    let cells = c.segment_cells-part.ensures in
    let run = run_addressed (unpaint_cell a.self.length (routes a.self.live.words.now)) a.territory (owns at.Then-is_pointer) 0 (omega (arith, cells.low))
    (omega (arith, cells.low, cells.high)) (omega (arith, c.block_start-start.ensures)) c.unpaint_run-changed.ensures.changed in
    record {
      some = omega arith;
      within = omega (arith, c.requires.some_blocks);
      done = record {
        blocks = block_points _ _ (owns at.Then-is_pointer) (omega (arith, cells.low)) (omega (arith, cells.high)) run;
        kept = kept_later (omega (arith, cells.high, c.block_start-start.ensures)) c.unpaint_run-changed.ensures.kept;
      };
    }

pub returns : goal.returns
returns c =
    let a = c.args in
    let start = c.block_start-start.ensures in
    let found = c.go_on.ensures in
    let piece = c.piece-stop.ensures in
    record {
      some = piece.some;
      within = piece.within;
      done = record {
        blocks = blocks_closed piece.closed
            (run_taken a.self.length (block_start a.territory) found.kept (λ k low high. (omega (arith, start), omega (arith, start, piece.fit)))
            (c.change_run-changed.ensures.changed (replaced a.self.length c.go_on.new.run.cell) (λ x y h. search rules)) (omega arith));
        kept = kept_later (omega (arith, start, piece.some)) found.kept;
      };
    }
