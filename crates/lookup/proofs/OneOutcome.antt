-- The contract of each public call asks nothing of its inputs and leaves one outcome. Assumes nothing.
use mathlib.Core.Path.{refl, sym, ◌∙◌}
use Rattle.ground.proofs.Contracts.{Settled, SettledBy}
use Rattle.ground.proofs.Refusals.{code_tells}
use Rattle.lookup.proofs.Answers.{answer_tells}
use Rattle.lookup.specs.Show.{seen}
use Rattle.lookup.specs.contracts.look.look_up as look_up
use Rattle.lookup.specs.contracts.show.show_code as show-code
use Rattle.lookup.specs.contracts.show.show_cells as show-cells
use Rattle.lookup.specs.contracts.bytes.look_up_bytes as look-up-bytes

look_up_settled : Settled look_up.ended (λ M 𝓤 𝓛. look_up.clauses 𝓛)
look_up_settled = record { claim = _; says = λ M 𝓤 𝓛 mem run κs a. refl; one = λ κs a x y v w p q. (answer_tells x y (p ∙ sym q), refl) }

show_code_settled : Settled show-code.ended (λ M 𝓤 𝓛. show-code.clauses 𝓛)
show_code_settled = record { claim = _; says = λ M 𝓤 𝓛 mem run κs a. refl; one = λ κs a x y v w p q. (code_tells x y (p ∙ sym q), refl) }

-- of the part that is returned: where it lies and what it holds
show_cells_settled : SettledBy show-cells.ended (λ κs. seen) (λ M 𝓤 𝓛. show-cells.clauses 𝓛)
show_cells_settled = record { claim = _; says = λ M 𝓤 𝓛 mem run κs a. refl; one = λ κs a x y v w p q. (p ∙ sym q, refl) }

look_up_bytes_settled : Settled look-up-bytes.ended (λ M 𝓤 𝓛. look-up-bytes.clauses 𝓛)
look_up_bytes_settled = record { claim = _; says = λ M 𝓤 𝓛 mem run κs a. refl; one = λ κs a x y v w p q. (p ∙ sym q, refl) }
