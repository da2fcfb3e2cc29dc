-- `paint::paint_cell` meets its contract: a cell that is 0 or no longer than the prefix is replaced, and past both tests it is neither.
-- Assumes nothing.
use mathlib.Core.Path.{sym}
use mathlib.Core.Logic.{inl, inr, ⊎_elim}
use native.Mathlib.Omega.{arith}
use Rattle.tables.proofs.Cellwise.{paint_on, paint_off}
use Rattle.tables.proofs.paint.paint_cell.Goals as goal

pub returns-then-old-eq-EMPTY : goal.returns-then-old-eq-EMPTY
returns-then-old-eq-EMPTY c = sym (paint_on _ _ _ (inl (omega arith)))

pub returns-then-length : goal.returns-then-length
returns-then-length c = sym (paint_on _ _ _ (inr (omega arith)))

pub returns : goal.returns
returns c = sym (paint_off _ _ _ (⊎_elim c.if-old-eq-EMPTY.false (λ h. omega arith)))
