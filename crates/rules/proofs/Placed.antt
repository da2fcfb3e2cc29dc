-- A route put into a list, and a prefix taken out, by the index of its place: what the words of the list are then. Assumes nothing.
use mathlib.Core.Path.{◌≡◌, refl, ap, ap₂, sym, ◌∙◌}
use mathlib.Core.List.Memᴰ
use mathlib.Core.List.{List, [], ◌∷◌, ◌++◌, map, Memᴰ as Mem}
use Prim.Native.Nat.{ℕ, zero, suc, ◌≤◌, ◌<◌}
use native.Mathlib.Omega.{arith}
use lib.ListN.{length, take, drop}
use Rattle.ground.proofs.Tests.{says, denies}
use Rattle.ground.proofs.Members.{mem_index}
use Rattle.prefix.specs.declared.Prefix.{Prefix}
use Rattle.prefix.specs.Prefixes.{Before}
use Rattle.prefix.specs.declared.Route.{Route}
use Rattle.prefix.specs.Routes.{with_route, other, without}
use Rattle.prefix.proofs.Changes.{with_before, with_there, with_after, keep_cases, other?, without_absent}
use Rattle.rules.specs.Words.{prefix_of, route_of, word_of}
use Rattle.rules.specs.inner.Places.{prefix_at}
use Rattle.rules.proofs.Words.{word_route}
use Rattle.rules.proofs.RouteWords.{word_routes}

module _ (r : Route) where
  -- a word that stays before the place
  stays : (v : ℕ) (vs : List ℕ) {us : List ℕ} → Before (prefix_of v) r.prefix → map word_of (with_route r (map route_of vs)) ≡ us
      → map word_of (with_route r (map route_of (v ∷ vs))) ≡ v ∷ us
  stays v vs b e = ap (map word_of) (with_after r (route_of v) (map route_of vs) b) ∙ ap₂ ◌∷◌ (word_route v) e

  -- no word has the prefix of r, and a is its place between the others
  pub with_new : (vs : List ℕ) (a : ℕ) → a ≤ length vs → ((i : ℕ) → i < a → Before (prefix_at vs i) r.prefix)
      → ((i : ℕ) → a ≤ i → i < length vs → Before r.prefix (prefix_at vs i))
      → map word_of (with_route r (map route_of vs)) ≡ take a vs ++ word_of r ∷ drop a vs
  unfolding with_route
  with_new [] zero h below above = refl
  with_new [] (suc a) h below above = absurd (omega arith)
  with_new (v ∷ vs) zero h below above =
      ap (map word_of) (with_before r (route_of v) (map route_of vs) (above 0 (omega arith) (omega arith)))
      ∙ ap (λ (us : List ℕ). word_of r ∷ us) (word_routes (v ∷ vs))
  with_new (v ∷ vs) (suc a) h below above =
      stays v vs (below 0 (omega arith))
      (with_new vs a (omega arith) (λ i l. below (suc i) (omega arith)) (λ i l m. above (suc i) (omega arith) (omega arith)))

  -- the word at a has the prefix of r
  pub with_same : (vs : List ℕ) (a : ℕ) → a < length vs → ((i : ℕ) → i < a → Before (prefix_at vs i) r.prefix) → prefix_at vs a ≡ r.prefix
      → map word_of (with_route r (map route_of vs)) ≡ take a vs ++ word_of r ∷ drop (suc a) vs
  with_same [] a h below here = absurd (omega arith)
  with_same (v ∷ vs) zero h below here =
      ap (map word_of) (with_there r (route_of v) (map route_of vs) (sym here)) ∙ ap (λ (us : List ℕ). word_of r ∷ us) (word_routes vs)
  with_same (v ∷ vs) (suc a) h below here =
      stays v vs (below 0 (omega arith)) (with_same vs a (omega arith) (λ i l. below (suc i) (omega arith)) here)

-- the word at a is the only one of the prefix p
module _ (p : Prefix) where
  absent : (vs : List ℕ) → ((i : ℕ) → i < length vs → prefix_at vs i ≡ p → ⊥) → (s : Route) → Mem s (map route_of vs) → ¬ (s.prefix ≡ p)
  absent vs n s m e =
      let w = Memᴰ.of_map route_of vs m in
      let i = mem_index 0 vs w.1 in
      n i.0 i.1 (ap prefix_of i.2 ∙ ap (λ (x : Route). x.prefix) w.2 ∙ e)

  pub without_one : (vs : List ℕ) (a : ℕ) → a < length vs → prefix_at vs a ≡ p → ((i : ℕ) → i < length vs → prefix_at vs i ≡ p → i ≡ a)
      → map word_of (without p (map route_of vs)) ≡ take a vs ++ drop (suc a) vs
  unfolding without
  without_one [] a h here only = absurd (omega arith)
  without_one (v ∷ vs) zero h here only =
      keep_cases (λ us. map word_of us ≡ vs) (other p) (route_of v) (map route_of vs)
      (λ y. absurd (says (other? p (route_of v)) y here))
      (λ n. ap (map word_of) (without_absent p (map route_of vs) (absent vs (λ i l e. omega (arith, only (suc i) (omega arith) e)))) ∙ word_routes vs)
  without_one (v ∷ vs) (suc a) h here only =
      let rest = without_one vs a (omega arith) here (λ i l e. omega (arith, only (suc i) (omega arith) e)) in
      keep_cases (λ us. map word_of us ≡ v ∷ (take a vs ++ drop (suc a) vs)) (other p) (route_of v) (map route_of vs)
      (λ y. ap₂ ◌∷◌ (word_route v) rest)
      (λ n. absurd (denies (other? p (route_of v)) n (λ e. omega (arith, only 0 (omega arith) e))))
