-- The contract of the public call asks nothing of its inputs and leaves one outcome. Assumes nothing.
use mathlib.Core.Path.{refl}
use Rattle.ground.proofs.Contracts.{Settled}
use Rattle.ground.proofs.Refusals.{code_tells}
use Rattle.sheet.proofs.Dearest.{one_sheet}
use Rattle.sheet.specs.contracts.cost_sheet as cost-sheet

cost_sheet_settled : Settled cost-sheet.ended (λ M 𝓤 𝓛. cost-sheet.clauses 𝓛)
cost_sheet_settled = record { claim = _; says = λ M 𝓤 𝓛 mem run κs a. refl; one = λ κs a x y v w p q. let e = one_sheet p q in (code_tells x y e.0, λ i. (v.0, (v.1.0, (e.1 i, tt)))) }
