-- `is_clean` meets its contract: past the test of an empty cell, a cell is clean exactly if it is direct. Assumes nothing.
use mathlib.Core.Path.{sym, ap, ◌∙◌}
use mathlib.Core.Logic.{inl}
use mathlib.Core.Bool.{Bool, ◌||◌}
use borrow.Author.Tests.{ne_eqb}
use Rattle.ground.proofs.Tests.{passes}
use Rattle.cells.specs.Cells.{is_direct}
use Rattle.damage.proofs.Soundness.{is_clean?}
use Rattle.damage.proofs.is_clean.Goals as goal

pub returns-then-cell-eq-EMPTY : goal.returns-then-cell-eq-EMPTY
returns-then-cell-eq-EMPTY c = sym (passes (is_clean? _ _) (inl c.if-cell-eq-EMPTY.true))

pub returns : goal.returns
returns c =
    let s = c.args in
    c.is_direct.ensures ∙ sym (ap (λ (t : Bool). t || is_direct s.longest s.cell) (ne_eqb _ _ c.if-cell-eq-EMPTY.false))
