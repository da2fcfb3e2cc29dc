-- `fill::close` meets its contract: one run of 0 is the whole segment. Assumes nothing.
use mathlib.Core.Path.{refl}
use native.Mathlib.Omega.{arith}
use borrow.Author.Rules.{rules}
use Rattle.ground.proofs.Lists.{differs_small}
use Rattle.cells.specs.Cells.{empty}
use Rattle.tables.proofs.Closing.{closed}
use Rattle.tables.proofs.fill.close.Goals as goal

pub overflow_add-result : goal.overflow_add-result
overflow_add-result c =
    omega (arith, differs_small _ _ _ c.differ.ensures, c.segment_cells-run.ensures.high)

pub returns : goal.returns
returns c =
    let run = c.segment_cells-run.ensures in
    closed c.requires.closable c.requires.block_of_prefix _ c.segment-segment.ensures (omega (arith, c.segment-segment.ensures, run.low)) (omega (arith, run.high)) refl (omega arith)
    (c.change_run-changed.ensures.changed (λ x. empty) (λ x y h. search rules)) c.differ.ensures
