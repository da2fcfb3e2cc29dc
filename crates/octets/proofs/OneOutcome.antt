-- The contract of each public call asks nothing of its inputs and leaves one outcome. Assumes nothing.
use mathlib.Core.Path.{refl, sym, ap, ◌∙◌}
use Rattle.ground.proofs.Contracts.{Settled}
use Rattle.ground.proofs.Refusals.{code_tells}
use Rattle.octets.specs.Booking.{Outcome}
use Rattle.octets.specs.Many.{Outcomes}
use Rattle.octets.specs.contracts.clear_octets as clear-octets
use Rattle.octets.specs.contracts.book as book
use Rattle.octets.specs.contracts.book_all as book-all

clear_octets_settled : Settled clear-octets.ended (λ M 𝓤 𝓛. clear-octets.clauses 𝓛)
clear_octets_settled = record { claim = _; says = λ M 𝓤 𝓛 mem run κs a. refl; one = λ κs a x y v w p q. let e = p ∙ sym q in (code_tells x y (ap (λ (o : Outcome). o.code) e), λ i. ((e i).words, tt)) }

book_settled : Settled book.ended (λ M 𝓤 𝓛. book.clauses 𝓛)
book_settled = record { claim = _; says = λ M 𝓤 𝓛 mem run κs a. refl; one = λ κs a x y v w p q. let e = p ∙ sym q in (code_tells x y (ap (λ (o : Outcome). o.code) e), λ i. (v.0, (v.1.0, ((e i).words, (v.1.1.1.0, (v.1.1.1.1.0, (v.1.1.1.1.1.0, tt))))))) }

book_all_settled : Settled book-all.ended (λ M 𝓤 𝓛. book-all.clauses 𝓛)
book_all_settled = record { claim = _; says = λ M 𝓤 𝓛 mem run κs a. refl; one = λ κs a x y v w p q. let e = p ∙ sym q in (code_tells x y (ap (λ (o : Outcomes). o.code) e), λ i. (v.0, (v.1.0, ((e i).words, (v.1.1.1.0, (v.1.1.1.1.0, (v.1.1.1.1.1.0, ((e i).codes, tt)))))))) }
