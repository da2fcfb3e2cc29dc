-- What `put` and `take_out` leave: the words of the list with the route, and of the list without the prefix. Assumes nothing.
use mathlib.Core.Path.{◌≡◌, refl, sym, ap, ap₂, subst, ◌∙◌}
use mathlib.Core.Bool.{Bool, true, false}
use mathlib.Core.List.{List, ◌∷◌, ◌++◌, map, append_assoc}
use Prim.Native.Nat.{ℕ, suc, ◌-◌, ◌≤◌, ◌<◌}
use native.Mathlib.Omega.{arith}
use lib.ListN.{length, get_or, set, take, drop, replicate, length-append, length-map, take-append-drop}
use lib.Seq.{length-take-le, get_or-take, take-take, drop-append-le, set_split, slice, length-slice}
use Rattle.ground.proofs.Cases.{by_cmp}
use Rattle.ground.proofs.Tests.{says, denies}
use Rattle.prefix.specs.declared.Prefix.{Prefix}
use Rattle.prefix.specs.Prefixes.{WellFormed, Before}
use Rattle.prefix.specs.declared.Route.{Route}
use Rattle.prefix.specs.Routes.{with_route, without}
use Rattle.rules.specs.Words.{prefix_of, route_of, route_by, word_of, key_of}
use Rattle.rules.specs.Rules.{routes, words_of}
use Rattle.rules.specs.inner.Places.{Listed, prefix_at, key_at, PlaceIs, inserted_at, removed_at}
use Rattle.rules.proofs.Words.{word_order}
use Rattle.rules.proofs.LiveWords.{live-take}
use Rattle.rules.proofs.Indices.{index_routes, listed_within, listed_short, is_live?}
use Rattle.rules.proofs.Searches.{key_prefix, position_found, live_at_place}
use Rattle.rules.proofs.RouteWords.{zeros-drop}
use Rattle.rules.proofs.Placed.{with_new, with_same, without_one}

-- ---- the prefixes around a place

module _ {ws : List ℕ} {n : ℕ} {p : Prefix} {at : ℕ} {found : Bool} (s : Listed ws n) (w : WellFormed p) (q : PlaceIs ws n p at found) where
  below : (i : ℕ) → i < at → Before (prefix_at ws i) p
  below i l = (word_order (prefix_at ws i) p (listed_short s i (omega (arith, q.position.within))) w.short).0 (q.position.below i l)

  -- a live prefix is at the place
  pub place_live : found ≡ true → (at < n) × (prefix_at ws at ≡ p)
  place_live y =
      let h = live_at_place s w q.position (says (is_live? p (routes ws)) (sym q.says_live ∙ y)) in
      (h.0, key_prefix s w q.position at h.0 h.1)

  -- one that is not live comes before all from the place on
  above : found ≡ false → (i : ℕ) → at ≤ i → i < n → Before p (prefix_at ws i)
  above y i l h =
      by_cmp (key_at ws i) (key_of p)
      (λ less. absurd (omega (arith, q.position.above i l h)))
      (λ e. absurd (denies (is_live? p (routes ws)) (sym q.says_live ∙ y)
      (route_of (get_or ws i 0), index_routes ws i (omega (arith, s.count)) refl, key_prefix s w q.position i h e)))
      (λ more. (word_order p (prefix_at ws i) w.short (listed_short s i h)).0 more)

  only : (i : ℕ) → i < n → prefix_at ws i ≡ p → i ≡ at
  only i l e = position_found s w q.position i l (ap key_of e)

-- ---- the words of a list of routes, by what they are and how many

words_are : (k : ℕ) (us : List Route) (vs : List ℕ) (m : ℕ) → map word_of us ≡ vs → length vs ≡ m → words_of k us ≡ vs ++ replicate (k - m) 0
unfolding words_of
words_are k us vs m e l =
    ap₂ (λ (xs : List ℕ) (i : ℕ). xs ++ replicate (k - i) 0) e (sym (length-map us word_of) ∙ ap length e ∙ l)

module _ {ws : List ℕ} {n : ℕ} (s : Listed ws n) where
  routes_first : routes ws ≡ map route_of (take n ws)
  unfolding routes
  routes_first = ap (map route_of) (live-take ws ∙ ap (λ (k : ℕ). take k ws) (sym s.count))

  zeros_from : (m : ℕ) → n ≤ m → replicate (length ws - m) 0 ≡ drop m ws
  zeros_from m h = sym (zeros-drop ws m (λ i l. s.rest i (omega arith)))

-- ---- a route put in, and a prefix taken out

module _ {ws : List ℕ} {n : ℕ} {p : Prefix} {at : ℕ} {found : Bool} (s : Listed ws n) (w : WellFormed p) (q : PlaceIs ws n p at found) where
  -- the first n words, by the prefixes that they have in ws
  first_length : length (take n ws) ≡ n
  first_length = length-take-le n ws (listed_within s)

  first_prefix : (i : ℕ) → i < n → prefix_at (take n ws) i ≡ prefix_at ws i
  first_prefix i l = ap prefix_of (get_or-take n ws i 0 l)

  first_take : take at (take n ws) ≡ take at ws
  first_take = take-take at n ws q.position.within

  first_below : (i : ℕ) → i < at → Before (prefix_at (take n ws) i) p
  first_below i l =
      subst (λ (x : Prefix). Before x p) (sym (first_prefix i (omega (arith, q.position.within)))) (below s w q i l)

  module _ (h : ℕ) where
    pub put_new : found ≡ false → n < length ws → inserted_at ws n at (word_of (route_by p h)) ≡ words_of (length ws) (with_route (route_by p h) (routes ws))
    put_new y room =
        let r : Route = route_by p h in
        let end = q.position.within in
        let words : map word_of (with_route r (routes ws)) ≡ take at ws ++ word_of r ∷ slice at n ws =
        ap (λ (rs : List Route). map word_of (with_route r rs)) (routes_first s)
        ∙ with_new r (take n ws) at (omega (arith, first_length)) first_below
        (λ i l m. let b : i < n = omega (arith, first_length) in subst (Before p) (sym (first_prefix i b)) (above s w q y i l b))
        ∙ ap (λ (xs : List ℕ). xs ++ word_of r ∷ slice at n ws) first_take in
        let size : length (take at ws ++ word_of r ∷ slice at n ws) ≡ suc n =
        simp (length-append, length-take-le at ws (omega arith), length-slice at n ws (omega arith)) (omega arith) in
        sym (words_are (length ws) (with_route r (routes ws)) (take at ws ++ word_of r ∷ slice at n ws) (suc n) words size
        ∙ append_assoc (take at ws) (word_of r ∷ slice at n ws) (replicate (length ws - suc n) 0)
        ∙ ap (λ (xs : List ℕ). take at ws ++ word_of r ∷ (slice at n ws ++ xs)) (zeros_from s (suc n) (omega arith)))

    pub put_same : found ≡ true → set ws at (word_of (route_by p h)) ≡ words_of (length ws) (with_route (route_by p h) (routes ws))
    put_same y =
        let r : Route = route_by p h in
        let here = place_live s w q y in
        let room = listed_within s in
        let words : map word_of (with_route r (routes ws)) ≡ take at ws ++ word_of r ∷ slice (suc at) n ws =
        ap (λ (rs : List Route). map word_of (with_route r rs)) (routes_first s)
        ∙ with_same r (take n ws) at (omega (arith, here.0, first_length)) first_below (first_prefix at here.0 ∙ here.1)
        ∙ ap (λ (xs : List ℕ). xs ++ word_of r ∷ slice (suc at) n ws) first_take in
        let size : length (take at ws ++ word_of r ∷ slice (suc at) n ws) ≡ n =
        simp (length-append, length-take-le at ws (omega (arith, here.0)), length-slice (suc at) n ws room) (omega (arith, here.0)) in
        let rest : slice (suc at) n ws ++ drop n ws ≡ drop (suc at) ws =
        sym (drop-append-le (suc at) (take n ws) (drop n ws) (omega (arith, here.0, first_length))) ∙ ap (drop (suc at)) (take-append-drop n ws) in
        set_split ws at (word_of r) (omega (arith, here.0))
        ∙ sym (words_are (length ws) (with_route r (routes ws)) (take at ws ++ word_of r ∷ slice (suc at) n ws) n words size
        ∙ append_assoc (take at ws) (word_of r ∷ slice (suc at) n ws) (replicate (length ws - n) 0)
        ∙ ap (λ (xs : List ℕ). take at ws ++ word_of r ∷ xs) (ap (λ (xs : List ℕ). slice (suc at) n ws ++ xs) (zeros_from s n (omega arith)) ∙ rest))

  pub taken_out : found ≡ true → removed_at ws n at ≡ words_of (length ws) (without p (routes ws))
  taken_out y =
      let here = place_live s w q y in
      let room = listed_within s in
      let words : map word_of (without p (routes ws)) ≡ take at ws ++ slice (suc at) n ws =
      ap (λ (rs : List Route). map word_of (without p rs)) (routes_first s)
      ∙ without_one p (take n ws) at (omega (arith, here.0, first_length)) (first_prefix at here.0 ∙ here.1)
      (λ i l e. let b : i < n = omega (arith, first_length) in only s w q i b (sym (first_prefix i b) ∙ e))
      ∙ ap (λ (xs : List ℕ). xs ++ slice (suc at) n ws) first_take in
      let size : length (take at ws ++ slice (suc at) n ws) ≡ n - 1 =
      simp (length-append, length-take-le at ws (omega (arith, here.0)), length-slice (suc at) n ws room) (omega (arith, here.0)) in
      let one : length ws - (n - 1) ≡ suc (length ws - n) = omega (arith, here.0) in
      sym (words_are (length ws) (without p (routes ws)) (take at ws ++ slice (suc at) n ws) (n - 1) words size
      ∙ ap (λ (k : ℕ). take at ws ++ slice (suc at) n ws ++ replicate k 0) one
      ∙ append_assoc (take at ws) (slice (suc at) n ws) (0 ∷ replicate (length ws - n) 0)
      ∙ ap (λ (xs : List ℕ). take at ws ++ (slice (suc at) n ws ++ 0 ∷ xs)) (zeros_from s n (omega arith)))
