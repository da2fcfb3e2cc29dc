-- The contract of each public call asks nothing of its inputs and leaves one outcome. Assumes nothing.
use mathlib.Core.Path.{refl, sym, ◌∙◌}
use Rattle.ground.proofs.Contracts.{Settled}
use Rattle.costs.specs.contracts.line.cost_line as cost-line
use Rattle.costs.specs.contracts.line.ValuesFromLine.from as values_of

cost_line_settled : Settled cost-line.ended (λ M 𝓤 𝓛. cost-line.clauses 𝓛)
cost_line_settled = record { claim = _; says = λ M 𝓤 𝓛 mem run κs a. refl; one = λ κs a x y v w p q. (p ∙ sym q, refl) }

-- what a line stands for, `Values::from`
values_of_settled : Settled values_of.ended (λ M 𝓤 𝓛. values_of.clauses 𝓛)
values_of_settled = record { claim = _; says = λ M 𝓤 𝓛 mem run κs a. refl; one = λ κs a x y v w p q. (p ∙ sym q, refl) }
