-- The search by halves, and what the place that it finds says of a prefix: whether it is live, and where. Assumes nothing.
use mathlib.Core.Path.{◌≡◌, refl, sym, ap, ap₂, subst, ◌∙◌}
use mathlib.Core.Bool.{Bool, true, false}
use mathlib.Core.List.{List}
use Prim.Native.Nat.{ℕ, ◌+◌, ◌-◌, ◌≤◌, ◌<◌}
use native.Mathlib.Omega.{arith}
use lib.Dec.{ltb, eqb}
use lib.ListN.{length, get_or, take, drop, length-drop}
use lib.Seq.{length-take-le, get_or-take, get_or-drop}
use Rattle.std.proofs.lemmas.Grind.{get_or_default_zero}
use borrow.Author.Tests.{eq-eqb, ne_eqb, ltb-true, ltb-false, lt-ltb}
use borrow.Author.Count.{below_more}
use Rattle.std.specs.List.Sorted.{IsPartitionedBy, IsPartitionPoint}
use Rattle.ground.proofs.Cases.{by_lt, by_cmp}
use Rattle.ground.proofs.Tests.{eqb?, iff?, stops, same_test}
use Rattle.prefix.specs.declared.Prefix.{Prefix}
use Rattle.prefix.specs.Prefixes.{WellFormed}
use Rattle.prefix.specs.declared.Route.{Route}
use Rattle.rules.specs.Words.{prefix_of, route_of, key_of}
use Rattle.rules.specs.Rules.{routes}
use Rattle.rules.specs.inner.Places.{Listed, prefix_at, key_at, PositionIs, Bracket, PlaceIs}
use Rattle.rules.proofs.Words.{key_same}
use Rattle.rules.proofs.Indices.{routes_index, index_routes, listed_within, listed_short, listed_order, IsLive, is_live?}

-- ---- low and high bracket the answer

module _ {ws : List ℕ} {n k low high : ℕ} (s : Listed ws n) (b : Bracket ws n k low high) (m : ℕ) (lm : low ≤ m) (mh : m < high) where
  pub bracket_up : key_at ws m < k → Bracket ws n k (m + 1) high
  bracket_up h = record {
    low_le = omega arith;
    high_le = b.high_le;
    below = below_more (λ (i : ℕ). key_at ws i < k) m (λ i l. omega (arith, listed_order s i m l (omega arith))) h;
    above = b.above;
  }

  pub bracket_down : k ≤ key_at ws m → Bracket ws n k low m
  bracket_down h = record {
    low_le = lm;
    high_le = omega arith;
    below = b.below;
    above = λ i l il.
        by_lt m i (λ mi. omega (arith, listed_order s m i mi il)) (λ im. subst (λ (x : ℕ). k ≤ key_at ws x) (omega arith) h);
  }

-- ---- what the position of a prefix says

module _ {ws : List ℕ} {n : ℕ} {p : Prefix} {at : ℕ} (s : Listed ws n) (w : WellFormed p) (q : PositionIs ws n (key_of p) at) where
  -- a word is of the prefix exactly if it has its key
  pub key_prefix : (i : ℕ) → i < n → key_at ws i ≡ key_of p → prefix_at ws i ≡ p
  key_prefix i l e =
      (key_same (prefix_at ws i) p (listed_short s i l) w.short).0 e

  -- a word of the prefix is at the place
  pub position_found : (i : ℕ) → i < n → key_at ws i ≡ key_of p → i ≡ at
  position_found i l e =
      by_cmp i at (λ h. absurd (omega (arith, q.below i h))) (λ h. h)
      (λ h. absurd (omega (arith, listed_order s at i h l, q.above at (omega arith) (omega arith))))

  -- so a live prefix is at the place
  pub live_at_place : IsLive p (routes ws) → (at < n) × (key_at ws at ≡ key_of p)
  live_at_place h =
      let i = routes_index ws h.1 in
      let l : i.0 < n = omega (arith, i.1, s.count) in
      let e : key_at ws i.0 ≡ key_of p = ap (λ (r : Route). key_of r.prefix) i.2 ∙ ap key_of h.2 in
      subst (λ (k : ℕ). (k < n) × (key_at ws k ≡ key_of p)) (position_found i.0 l e) (l, e)

-- ---- the place that `find` answers: k is the key of the prefix, and x that of the word at the place

module _ {ws : List ℕ} {n : ℕ} {p : Prefix} {k at : ℕ} (s : Listed ws n) (w : WellFormed p) (e : k ≡ key_of p) (q : PositionIs ws n k at) where
  place_position : PositionIs ws n (key_of p) at
  place_position = subst (λ (x : ℕ). PositionIs ws n x at) e q

  pub place_past : at ≡ n → PlaceIs ws n p at false
  place_past end = record {
    position = place_position;
    says_live = sym (stops (is_live? p (routes ws)) (λ h. omega (arith, (live_at_place s w place_position h).0)));
  }

  place_within : (x : ℕ) → at < n → x ≡ key_at ws at → PlaceIs ws n p at (eqb x k)
  place_within x l f = record {
    position = place_position;
    says_live = ap₂ eqb f e ∙ same_test (eqb? (key_at ws at) (key_of p))
        (iff? (is_live? p (routes ws)) (λ h. (live_at_place s w place_position h).1)
        (λ same. (route_of (get_or ws at 0), index_routes ws at (omega (arith, s.count)) refl, key_prefix s w place_position at l same)));
  }

  pub place_found : (x : ℕ) → at < n → x ≡ key_at ws at → x ≡ k → PlaceIs ws n p at true
  place_found x l f same = subst (λ (t : Bool). PlaceIs ws n p at t) (eq-eqb x k same) (place_within x l f)

  pub place_missed : (x : ℕ) → at < n → x ≡ key_at ws at → (x ≡ k → ⊥) → PlaceIs ws n p at false
  place_missed x l f other = subst (λ (t : Bool). PlaceIs ws n p at t) (ne_eqb x k other) (place_within x l f)

-- ---- the library's search by halves: it is told the words low..high of the list alone

module _ {ws : List ℕ} {n k low high : ℕ} (s : Listed ws n) (b : Bracket ws n k low high) where
  -- the words there
  abbrev pub among : List ℕ
  among = take (high - low) (drop low ws)

  size_among : length among ≡ high - low
  size_among = length-take-le (high - low) (drop low ws) (omega (arith, length-drop low ws, b.low_le, b.high_le, listed_within s))

  key_among : (i d : ℕ) → i < high - low → key_of (prefix_of (get_or among i d)) ≡ key_at ws (low + i)
  key_among i d l =
      let e : get_or among i d ≡ get_or ws (low + i) 0 =
      get_or-take (high - low) (drop low ws) i d l ∙ get_or-drop low ws i d
      ∙ get_or_default_zero ws (low + i) d (omega (arith, b.low_le, b.high_le, listed_within s)) in
      ap (λ (w : ℕ). key_of (prefix_of w)) e

  -- no word of a key below k comes after one that has none
  pub parted : IsPartitionedBy (λ w. ltb (key_of (prefix_of w)) k) among
  parted i j d ij jl less =
      let jr : j < high - low = omega (arith, size_among) in
      let kj = ltb-true _ _ less in
      lt-ltb _ _ (by_lt i j
      (λ h. omega (arith, key_among i d (omega arith), key_among j d jr, listed_order s (low + i) (low + j) (omega arith) (omega (arith, b.low_le, b.high_le))))
      (λ h. let e : i ≡ j = omega arith in subst (λ (x : ℕ). key_of (prefix_of (get_or among x d)) < k) (sym e) kj))

  pub position_within : {i : ℕ} → IsPartitionPoint (λ w. ltb (key_of (prefix_of w)) k ≡ true) (λ w. ltb (key_of (prefix_of w)) k ≡ false) among i
      → i ≤ length among → PositionIs ws n k (low + i)
  position_within {i} point within = record {
    within = omega (arith, size_among, b.low_le, b.high_le);
    below = λ j l.
        by_lt j low (λ h. b.below j h) (λ h.
        let e : low + (j - low) ≡ j = omega arith in
        let less = ltb-true _ _ (point.0 (j - low) 0 (omega arith) (omega arith)) in
        subst (λ (x : ℕ). key_at ws x < k) e (omega (arith, key_among (j - low) 0 (omega (arith, size_among)))));
    above = λ j l m.
        by_lt j high (λ h.
        let e : low + (j - low) ≡ j = omega arith in
        let more = ltb-false _ _ (point.1 (j - low) 0 (omega arith) (omega (arith, size_among))) in
        subst (λ (x : ℕ). k ≤ key_at ws x) e (omega (arith, key_among (j - low) 0 (omega arith))))
        (λ h. b.above j h m);
  }
