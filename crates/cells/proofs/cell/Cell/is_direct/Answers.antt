-- `Cell::is_direct` meets its contract: past each test that fails the cell is not direct, and past all of them it is. Assumes nothing.
use mathlib.Core.Path.{sym}
use native.Mathlib.Omega.{arith}
use Rattle.ground.proofs.Tests.{leb?, iff?, stops, same_test}
use Rattle.cells.proofs.Direct.{is_direct?}
use Rattle.cells.proofs.cell.Cell.is_direct.Goals as goal

pub returns-then-hop-lt1 : goal.returns-then-hop-lt1
returns-then-hop-lt1 c = let s = c.args in sym (stops (is_direct? s.longest s.cell) (λ d. omega (arith, d.some_hop)))

pub returns-then-hop-gt-LAST_HOP : goal.returns-then-hop-gt-LAST_HOP
returns-then-hop-gt-LAST_HOP c = let s = c.args in sym (stops (is_direct? s.longest s.cell) (λ d. omega (arith, d.hop_fits)))

pub returns : goal.returns
returns c =
    let s = c.args in
    same_test (leb? c.length.result s.longest)
    (iff? (is_direct? s.longest s.cell) (λ d. omega (arith, d.length_fits))
    (λ h. record { some_hop = omega arith; hop_fits = omega arith; length_fits = omega arith }))
