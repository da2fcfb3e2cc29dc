-- The list of routes by the index of their words: members, order, and whether a prefix is live. Assumes nothing.
use mathlib.Core.Path.{◌≡◌, refl, sym, ap, subst, ◌∙◌}
use mathlib.Core.Logic.{◌⊎◌, inl, inr}
use mathlib.Core.List.Memᴰ
use mathlib.Core.List.Memᴰ.{head as here}
use mathlib.Core.List.Memᴰ.{tail as there}
use mathlib.Core.List.{List, [], ◌∷◌, map, Memᴰ as Mem}
use Prim.Native.Nat.{ℕ, zero, suc, ◌≤◌, ◌<◌}
use native.Mathlib.Nat.{le_of_lt, le_of_eq}
use native.Mathlib.Omega.{arith}
use lib.ListN.{length, get_or}
use Rattle.ground.proofs.Cases.{by_lt}
use Rattle.ground.proofs.Tests.{Decides, fails, or?, iff?}
use Rattle.ground.proofs.Members.{mem_index, index_mem}
use Rattle.prefix.specs.declared.Prefix.{Prefix}
use Rattle.prefix.specs.Prefixes.{Before}
use Rattle.prefix.specs.declared.Route.{Route}
use Rattle.prefix.specs.Routes.{IsRoute, Ascending}
use Rattle.prefix.proofs.Order.{key, same_prefix?}
use Rattle.rules.specs.Words.{prefix_of, route_of}
use Rattle.rules.specs.Rules.{live_words, routes, is_live}
use Rattle.rules.specs.inner.Places.{Listed, prefix_at, key_at}
use Rattle.rules.proofs.Words.{key_less, word_order}
use Rattle.rules.proofs.LiveWords.{live_at, live-within}

-- ---- members

pub routes_index : {r : Route} (ws : List ℕ) → Mem r (routes ws) → (i : ℕ) × (i < length (live_words ws)) × (route_of (get_or ws i 0) ≡ r)
unfolding routes
routes_index ws m =
    let w = Memᴰ.of_map route_of (live_words ws) m in
    let i = mem_index 0 (live_words ws) w.1 in
    (i.0, i.1, ap route_of (sym (live_at ws i.0 i.1) ∙ i.2) ∙ w.2)

pub index_routes : {r : Route} (ws : List ℕ) (i : ℕ) → i < length (live_words ws) → route_of (get_or ws i 0) ≡ r → Mem r (routes ws)
unfolding routes
index_routes ws i h e =
    Memᴰ.cast (sym e ∙ ap route_of (sym (live_at ws i h))) (Memᴰ.map route_of (index_mem 0 (live_words ws) i h))

-- ---- order

-- the prefixes of a list of words ascend with the index
abbrev pub Rising : List ℕ → ℕ → Type 0
Rising ws n = (i j : ℕ) → i < j → j < n → Before (prefix_at ws i) (prefix_at ws j)

ascending_rises : (vs : List ℕ) → Ascending (map route_of vs) → Rising vs (length vs)
ascending_rises [] o i j l h = absurd (omega arith)
ascending_rises (v ∷ vs) o i zero l h = absurd (omega arith)
ascending_rises (v ∷ vs) o zero (suc j) l h = o.0 (route_of (get_or vs j 0)) (Memᴰ.map route_of (index_mem 0 vs j (omega arith)))
ascending_rises (v ∷ vs) o (suc i) (suc j) l h = ascending_rises vs o.1 i j (omega arith) (omega arith)

rises_ascending : (vs : List ℕ) → Rising vs (length vs) → Ascending (map route_of vs)
rises_ascending [] o = tt
rises_ascending (v ∷ vs) o = (first, rises_ascending vs (λ i j l h. o (suc i) (suc j) (omega arith) (omega arith)))
  where
    first : (s : Route) → Mem s (map route_of vs) → Before (prefix_of v) s.prefix
    first s m =
        let w = Memᴰ.of_map route_of vs m in
        let j = mem_index 0 vs w.1 in
        subst (λ (r : Route). Before (prefix_of v) r.prefix) (ap route_of j.2 ∙ w.2)
        (o 0 (suc j.0) (omega arith) (omega (arith, j.1)))

pub routes_rise : (ws : List ℕ) → Ascending (routes ws) → Rising ws (length (live_words ws))
unfolding routes
routes_rise ws o i j l h =
    let m = ascending_rises (live_words ws) o i j l h in
    rw (live_at ws i (omega arith), live_at ws j h) at m

pub rise_routes : (ws : List ℕ) → Rising ws (length (live_words ws)) → Ascending (routes ws)
unfolding routes
rise_routes ws o =
    rises_ascending (live_words ws) (λ i j l h. rw (live_at ws i (omega arith), live_at ws j h) (o i j l h))

-- ---- the words of a list that was tested

module _ {ws : List ℕ} {n : ℕ} (l : Listed ws n) where
  pub listed_within : n ≤ length ws
  listed_within = omega (arith, live-within ws)

  pub listed_route : (i : ℕ) → i < n → IsRoute (route_of (get_or ws i 0))
  listed_route i h = l.all (route_of (get_or ws i 0)) (index_routes ws i (omega arith) refl)

  pub listed_short : (i : ℕ) → i < n → (prefix_at ws i).length ≤ 32
  listed_short i h = (listed_route i h).formed.short

  pub listed_order : (i j : ℕ) → i < j → j < n → key_at ws i < key_at ws j
  listed_order i j ij h =
      (word_order (prefix_at ws i) (prefix_at ws j) (listed_short i (omega arith)) (listed_short j h)).1
      (routes_rise ws l.order i j ij (omega arith))

  -- the same as one number, of a word and of one no earlier
  pub keys_rise : (i j : ℕ) → i ≤ j → j < n → key (prefix_at ws i) ≤ key (prefix_at ws j)
  keys_rise i j ij h =
      by_lt i j
      (λ less. le_of_lt ((key_less (prefix_at ws i) (prefix_at ws j) (listed_short i (omega arith)) (listed_short j h)).0 (listed_order i j less h)))
      (λ ge. let e : i ≡ j = omega arith in le_of_eq (ap (λ (k : ℕ). key (prefix_at ws k)) e))

-- ---- a live prefix

abbrev pub IsLive : Prefix → List Route → Type 0
IsLive p rs = (r : Route) × (Mem r rs) × (r.prefix ≡ p)

pub is_live? : (p : Prefix) (rs : List Route) → Decides (IsLive p rs) (is_live p rs)
unfolding is_live
is_live? p [] = fails (λ h. Memᴰ.not-nil h.1)
is_live? p (r ∷ rs) = iff? (or? (same_prefix? r.prefix p) (is_live? p rs)) to (λ h. from h.0 h.1 h.2)
  where
    to : (r.prefix ≡ p) ⊎ IsLive p rs → IsLive p (r ∷ rs)
    to (inl e) = (r, here refl, e)
    to (inr h) = (h.0, there h.1, h.2)

    from : (s : Route) → Mem s (r ∷ rs) → s.prefix ≡ p → (r.prefix ≡ p) ⊎ IsLive p rs
    from s (here e) q = inl (ap (λ (x : Route). x.prefix) (sym e) ∙ q)
    from s (there m) q = inr (s, m, q)
