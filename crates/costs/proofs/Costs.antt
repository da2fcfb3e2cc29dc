-- Cost is a strict total order of the hops. Each line is a class and a fraction: of the cents, of the rate, or 0. Assumes nothing.
use mathlib.Core.Path.{◌≡◌, refl, sym, ap, ap₂, ◌∙◌, subst}
use mathlib.Core.Bool.{Bool, true, false, cond, true≢false, false≢true}
use mathlib.Core.Logic.{◌⊎◌, inl, inr}
use mathlib.Core.List.{List}
use Prim.Native.Nat.{ℕ, zero, suc, ◌*◌, ◌^◌, ◌<◌, ◌≤◌, zero-le, suc-le-suc}
use native.Mathlib.Nat.{mul-one, not-suc-le-zero}
use native.Mathlib.Omega.{arith}
use lib.Dec.{T, eqb, ltb, lit<}
use lib.ListN.{get_or}
use lib.Ieee.{lt}
use lib.Ieee.Positive.{num, den, den_pos, through}
use borrow.Author.Tests.{lt-ltb, le-ltb, ltb-true, ltb-false, eq-eqb, ne_eqb}
use Rattle.costs.specs.Lines.{rate_of}
use Rattle.costs.specs.Ranks.{Sound, class_of, dearer, ahead, tie_broken, hop_word, before}
use Rattle.costs.specs.Order.{Order}
use Rattle.costs.specs.declared.order.Entry.{Entry}
use Rattle.costs.specs.inner.Entries.{EntryOf}
use Rattle.ground.proofs.Cases.{by_lt, by_eq, by_cmp}
use Rattle.ground.proofs.Tests.{Decides, holds, fails, ltb?, says, passes, stops, iff?}
use Rattle.costs.proofs.Rates.{plain, lt_is, rate_plain}

-- ---- classes

module _ (o c : ℕ) where
  pub class_rate : (o ≡ 0 → ⊥) → class_of o c ≡ 1
  unfolding class_of
  class_rate n = ap (λ (t : Bool). cond t (cond (eqb c 0) 2 0) 1) (ne_eqb o 0 n)

  pub class_cents : o ≡ 0 → (c ≡ 0 → ⊥) → class_of o c ≡ 0
  unfolding class_of
  class_cents z n = ap₂ (λ (s t : Bool). cond s (cond t 2 0) 1) (eq-eqb o 0 z) (ne_eqb c 0 n)

  pub class_none : o ≡ 0 → c ≡ 0 → class_of o c ≡ 2
  unfolding class_of
  class_none z n = ap₂ (λ (s t : Bool). cond s (cond t 2 0) 1) (eq-eqb o 0 z) (eq-eqb c 0 n)

  -- in class 1 there are octets
  pub traffic : class_of o c ≡ 1 → 0 < o
  traffic e =
      by_eq o 0
      (λ z. by_eq c 0 (λ n. absurd (omega (arith, class_none z n))) (λ n. absurd (omega (arith, class_cents z n))))
      (λ n. omega arith)

-- ---- `ahead`, by the classes

module _ (o c o' c' : ℕ) where
  pub ahead_lower : class_of o c < class_of o' c' → ahead o c o' c' ≡ true
  unfolding ahead
  ahead_lower h = ap (λ (t : Bool). cond t true (cond (ltb (class_of o' c') (class_of o c)) false (dearer (class_of o c) o c o' c'))) (lt-ltb (class_of o c) (class_of o' c') h)

  ahead_higher : class_of o' c' < class_of o c → ahead o c o' c' ≡ false
  unfolding ahead
  ahead_higher h =
      ap₂ (λ (s t : Bool). cond s true (cond t false (dearer (class_of o c) o c o' c')))
      (le-ltb (class_of o c) (class_of o' c') (omega arith)) (lt-ltb (class_of o' c') (class_of o c) h)

  ahead_level : class_of o c ≡ class_of o' c' → ahead o c o' c' ≡ dearer (class_of o c) o c o' c'
  unfolding ahead
  ahead_level h =
      ap₂ (λ (s t : Bool). cond s true (cond t false (dearer (class_of o c) o c o' c')))
      (le-ltb (class_of o c) (class_of o' c') (omega arith)) (le-ltb (class_of o' c') (class_of o c) (omega arith))

-- ---- a line as a fraction, by its class k

top_of : ℕ → ℕ → ℕ → ℕ
top_of zero o c = c
top_of (suc zero) o c = num (rate_of o c)
top_of (suc (suc k)) o c = 0

under_of : ℕ → ℕ → ℕ → ℕ
under_of zero o c = 1
under_of (suc zero) o c = den (rate_of o c)
under_of (suc (suc k)) o c = 1

under_pos : (k o c : ℕ) → 0 < under_of k o c
unfolding under_of
under_pos zero o c = lit< tt
under_pos (suc zero) o c = den_pos (rate_of o c)
under_pos (suc (suc k)) o c = lit< tt

dearer_is : (k o c o' c' : ℕ) → (k ≡ 1 → T (plain (rate_of o c))) → (k ≡ 1 → T (plain (rate_of o' c')))
    → dearer k o c o' c' ≡ ltb (top_of k o' c' * under_of k o c) (top_of k o c * under_of k o' c')
unfolding dearer top_of under_of
dearer_is zero o c o' c' p q = ap₂ ltb (sym (mul-one c')) (sym (mul-one c))
dearer_is (suc zero) o c o' c' p q = lt_is (rate_of o' c') (rate_of o c) (q refl) (p refl)
dearer_is (suc (suc k)) o c o' c' p q = refl

-- ---- the order of a class k and a fraction p / q

abbrev Ahead : ℕ → ℕ → ℕ → ℕ → ℕ → ℕ → Type 0
Ahead k p q k' p' q' = (k < k') ⊎ ((k ≡ k') × (p' * q < p * q'))

module _ (k p q k' p' q' : ℕ) where
  one_way : Ahead k p q k' p' q' → Ahead k' p' q' k p q → ⊥
  one_way (inl h) (inl g) = omega arith
  one_way (inl h) (inr g) = omega (arith, g.0)
  one_way (inr h) (inl g) = omega (arith, h.0)
  one_way (inr h) (inr g) = omega (arith, h.1, g.1)

  -- what is ahead of another is ahead of any third, or the third is ahead of that other
  third : (k'' p'' q'' : ℕ) → 0 < q'' → Ahead k p q k' p' q' → Ahead k p q k'' p'' q'' ⊎ Ahead k'' p'' q'' k' p' q'
  third k'' p'' q'' Q (inl h) = by_lt k k'' (λ l. inl (inl l)) (λ g. inr (inl (omega arith)))
  third k'' p'' q'' Q (inr h) =
      let e : k ≡ k' = h.0 in
      by_cmp k k'' (λ l. inl (inl l))
      (λ f. by_lt (p'' * q) (p * q'') (λ l. inl (inr (f, l))) (λ a.
      by_lt (p' * q'') (p'' * q') (λ l. inr (inr (omega arith, l))) (λ b.
      absurd (omega (arith, h.1, through p p'' p' q q'' q' Q a b)))))
      (λ g. inr (inl (omega arith)))

-- ---- `ahead` decides that order

yes : {P : Type 0} {t : Bool} → t ≡ true → P → Decides P t
yes {P} e p = subst (Decides P) (sym e) (holds p)

no : {P : Type 0} {t : Bool} → t ≡ false → (P → ⊥) → Decides P t
no {P} e n = subst (Decides P) (sym e) (fails n)

abbrev Goes : ℕ → ℕ → ℕ → ℕ → Type 0
Goes o c o' c' =
    Ahead (class_of o c) (top_of (class_of o c) o c) (under_of (class_of o c) o c) (class_of o' c') (top_of (class_of o' c') o' c') (under_of (class_of o' c') o' c')

goes_third : (o c o' c' o'' c'' : ℕ) → Goes o c o' c' → Goes o c o'' c'' ⊎ Goes o'' c'' o' c'
goes_third o c o' c' o'' c'' h =
    third (class_of o c) (top_of (class_of o c) o c) (under_of (class_of o c) o c) (class_of o' c') (top_of (class_of o' c') o' c') (under_of (class_of o' c') o' c')
    (class_of o'' c'') (top_of (class_of o'' c'') o'' c'') (under_of (class_of o'' c'') o'' c'') (under_pos (class_of o'' c'') o'' c'') h

module _ (o c o' c' : ℕ) (lo : o ≤ 2 ^ 53) (lc : c ≤ 2 ^ 53) (lo' : o' ≤ 2 ^ 53) (lc' : c' ≤ 2 ^ 53) where
  level_is : class_of o c ≡ class_of o' c'
      → ahead o c o' c' ≡ ltb (top_of (class_of o' c') o' c' * under_of (class_of o c) o c) (top_of (class_of o c) o c * under_of (class_of o' c') o' c')
  level_is e =
      ahead_level o c o' c' e
      ∙ (dearer_is (class_of o c) o c o' c' (λ f. rate_plain o c (traffic o c f) lo lc) (λ f. rate_plain o' c' (traffic o' c' (sym e ∙ f)) lo' lc')
      ∙ ap₂ (λ (u v : ℕ). ltb (u * under_of (class_of o c) o c) (top_of (class_of o c) o c * v))
      (ap (λ (k : ℕ). top_of k o' c') e) (ap (λ (k : ℕ). under_of k o' c') e))

  goes? : Decides (Goes o c o' c') (ahead o c o' c')
  goes? =
      by_cmp (class_of o c) (class_of o' c')
      (λ l. yes (ahead_lower o c o' c' l) (inl l))
      (λ e. subst (Decides (Goes o c o' c')) (sym (level_is e))
      (iff? (ltb? (top_of (class_of o' c') o' c' * under_of (class_of o c) o c) (top_of (class_of o c) o c * under_of (class_of o' c') o' c'))
      (λ h. inr (e, h)) (within e)))
      (λ g. no (ahead_higher o c o' c' g) (lower g))
    where
      within : class_of o c ≡ class_of o' c' → Goes o c o' c' → top_of (class_of o' c') o' c' * under_of (class_of o c) o c < top_of (class_of o c) o c * under_of (class_of o' c') o' c'
      within e (inl l) = absurd (omega arith)
      within e (inr h) = h.1

      lower : class_of o' c' < class_of o c → Goes o c o' c' → ⊥
      lower g (inl l) = omega arith
      lower g (inr h) = omega (arith, h.0)

-- ---- ties to the lower number

module _ (a b : ℕ) where
  pub broken_first : (s t : Bool) → s ≡ true → tie_broken s t a b ≡ true
  unfolding tie_broken
  broken_first s t e = ap (λ (u : Bool). cond u true (cond t false (ltb a b))) e

  pub broken_third : (s t : Bool) → s ≡ false → t ≡ false → tie_broken s t a b ≡ ltb a b
  unfolding tie_broken
  broken_third s t e f = ap₂ (λ (u v : Bool). cond u true (cond v false (ltb a b))) e f

  if_broken : (s t : Bool) → tie_broken s t a b ≡ true → (s ≡ true) ⊎ ((s ≡ false) × ((t ≡ false) × (a < b)))
  unfolding tie_broken
  if_broken true t e = inl refl
  if_broken false true e = absurd (false≢true e)
  if_broken false false e = inr (refl, (refl, ltb-true a b e))

  not_broken : (s t : Bool) → tie_broken s t a b ≡ false → (s ≡ false) × ((t ≡ true) ⊎ (b ≤ a))
  unfolding tie_broken
  not_broken true t e = absurd (true≢false e)
  not_broken false true e = (refl, inl refl)
  not_broken false false e = (refl, inr (ltb-false a b e))

module _ (f : ℕ → ℕ → Bool) (once-only : (a b : ℕ) → f a b ≡ true → f b a ≡ true → ⊥)
    (between : (a b c : ℕ) → f a b ≡ true → (f a c ≡ true) ⊎ (f c b ≡ true)) where
  clash : {t : Bool} → t ≡ true → t ≡ false → ⊥
  clash e g = true≢false (sym e ∙ g)

  to_itself : (a : ℕ) → tie_broken (f a a) (f a a) a a ≡ false
  to_itself a = go (f a a) refl
    where
      go : (t : Bool) → f a a ≡ t → tie_broken (f a a) (f a a) a a ≡ false
      go true e = absurd (once-only a a e e)
      go false e = broken_third a a (f a a) (f a a) e e ∙ le-ltb a a (omega arith)

  -- a and b are level, and b and c are
  level_on : (a b c : ℕ) → f a b ≡ false → f b a ≡ false → f b c ≡ false → f c b ≡ false → a < c → tie_broken (f a c) (f c a) a c ≡ true
  level_on a b c p q r s l = go (f a c) refl (f c a) refl
    where
      go : (t : Bool) → f a c ≡ t → (u : Bool) → f c a ≡ u → tie_broken (f a c) (f c a) a c ≡ true
      go true e u g = broken_first a c (f a c) (f c a) e
      go false e true g = elim (between c a b g) [ inl h ↦ absurd (clash h s) | inr h ↦ absurd (clash h q) ]
      go false e false g = broken_third a c (f a c) (f c a) e g ∙ lt-ltb a c l

  step : (a b c : ℕ) → (f a b ≡ true) ⊎ ((f a b ≡ false) × ((f b a ≡ false) × (a < b))) → (f b c ≡ true) ⊎ ((f b c ≡ false) × ((f c b ≡ false) × (b < c)))
      → tie_broken (f a c) (f c a) a c ≡ true
  step a b c (inl h) (inl k) = elim (between a b c h) [ inl g ↦ broken_first a c (f a c) (f c a) g | inr g ↦ absurd (once-only b c k g) ]
  step a b c (inl h) (inr k) = elim (between a b c h) [ inl g ↦ broken_first a c (f a c) (f c a) g | inr g ↦ absurd (clash g k.1.0) ]
  step a b c (inr h) (inl k) = elim (between b c a k) [ inl g ↦ absurd (clash g h.1.0) | inr g ↦ broken_first a c (f a c) (f c a) g ]
  step a b c (inr h) (inr k) = level_on a b c h.0 h.1.0 k.0 k.1.0 (omega (arith, h.1.1, k.1.1))

  level_both : (a b : ℕ) → (f a b ≡ false) × ((f b a ≡ true) ⊎ (b ≤ a)) → (f b a ≡ false) × ((f a b ≡ true) ⊎ (a ≤ b)) → a ≡ b
  level_both a b (p, inl h) (q, r) = absurd (clash h q)
  level_both a b (p, inr h) (q, inl r) = absurd (clash r p)
  level_both a b (p, inr h) (q, inr r) = omega arith

  broken_order : Order (λ (a b : ℕ). tie_broken (f a b) (f b a) a b)
  broken_order = record {
    irreflexive = to_itself;
    transitive = λ a b c h k. step a b c (if_broken a b (f a b) (f b a) h) (if_broken b c (f b c) (f c b) k);
    total = λ a b h k. level_both a b (not_broken a b (f a b) (f b a) h) (not_broken b a (f b a) (f a b) k);
  }

-- ---- the hops by cost

word_small : (ws : List ℕ) → ((h : ℕ) → 0 < h → get_or ws h 0 ≤ 2 ^ 53) → (h : ℕ) → hop_word ws h ≤ 2 ^ 53
unfolding hop_word
word_small ws s zero = zero-le
word_small ws s (suc h) = s (suc h) (suc-le-suc zero-le)

pub hop_word_is : (ws : List ℕ) (h : ℕ) → 0 < h → hop_word ws h ≡ get_or ws h 0
unfolding hop_word
hop_word_is ws zero p = absurd (not-suc-le-zero p)
hop_word_is ws (suc h) p = refl

module _ (os cs : List ℕ) (l : Sound os cs) where
  abbrev goes : ℕ → ℕ → Bool
  goes a b = ahead (hop_word os a) (hop_word cs a) (hop_word os b) (hop_word cs b)

  at? : (a b : ℕ) → Decides (Goes (hop_word os a) (hop_word cs a) (hop_word os b) (hop_word cs b)) (goes a b)
  at? a b = goes? (hop_word os a) (hop_word cs a) (hop_word os b) (hop_word cs b) (word_small os l.octets_small a) (word_small cs l.cents_small a) (word_small os l.octets_small b) (word_small cs l.cents_small b)

  goes_once : (a b : ℕ) → goes a b ≡ true → goes b a ≡ true → ⊥
  goes_once a b h k = one_way _ _ _ _ _ _ (says (at? a b) h) (says (at? b a) k)

  goes_between : (a b c : ℕ) → goes a b ≡ true → (goes a c ≡ true) ⊎ (goes c b ≡ true)
  goes_between a b c h =
      elim (goes_third (hop_word os a) (hop_word cs a) (hop_word os b) (hop_word cs b) (hop_word os c) (hop_word cs c) (says (at? a b) h)) [
        | inl g ↦ inl (passes (at? a c) g)
        | inr g ↦ inr (passes (at? c b) g)
      ]

  -- cost is a strict total order
  pub before_order : Order (before os cs)
  unfolding before
  before_order = broken_order goes goes_once goes_between

  -- of two hops in order the second does not go ahead of the first; and where the first does not either, it has the lower number
  pub in_order : (a b : ℕ) → before os cs a b ≡ true → (goes b a ≡ false) × (goes a b ≡ false → a < b)
  unfolding before
  in_order a b h = go (if_broken a b (goes a b) (goes b a) h)
    where
      go : (goes a b ≡ true) ⊎ ((goes a b ≡ false) × ((goes b a ≡ false) × (a < b))) → (goes b a ≡ false) × (goes a b ≡ false → a < b)
      go (inl g) = (stops (at? b a) (λ k. one_way _ _ _ _ _ _ (says (at? a b) g) k), λ f. absurd (true≢false (sym g ∙ f)))
      go (inr g) = (g.1.0, λ f. g.1.1)

-- the order of two hops, by their entries
pub by_entries : {r : Bool} {a : ℕ} (os cs : List ℕ) (x y : Entry) → x.hop ≡ a → EntryOf os cs x → EntryOf os cs y
    → r ≡ tie_broken (ahead x.octets x.cents y.octets y.cents) (ahead y.octets y.cents x.octets x.cents) x.hop y.hop
    → r ≡ before os cs a y.hop
unfolding before
by_entries os cs x y e p q h =
    rw (sym e, hop_word_is os x.hop x.is_hop.0 ∙ sym p.0, hop_word_is cs x.hop x.is_hop.0 ∙ sym p.1, hop_word_is os y.hop y.is_hop.0 ∙ sym q.0, hop_word_is cs y.hop y.is_hop.0 ∙ sym q.1) h

-- ---- within a class

module _ (o c o' c' : ℕ) where
  pub by_rates : class_of o c ≡ class_of o' c' → class_of o c ≡ 1 → ahead o c o' c' ≡ lt (rate_of o' c') (rate_of o c)
  unfolding dearer
  by_rates e f = ahead_level o c o' c' e ∙ ap (λ (k : ℕ). dearer k o c o' c') f

  -- in another class than 1 the cents decide
  pub by_cents : class_of o c ≡ class_of o' c' → (class_of o c ≡ 1 → ⊥) → ahead o c o' c' ≡ ltb c' c
  unfolding dearer
  by_cents e n =
      ahead_level o c o' c' e ∙
      by_eq o 0
      (λ z. by_eq c 0
      (λ y. ap (λ (k : ℕ). dearer k o c o' c') (class_none o c z y) ∙ sym (le-ltb c' c (omega arith)))
      (λ y. ap (λ (k : ℕ). dearer k o c o' c') (class_cents o c z y)))
      (λ m. absurd (n (class_rate o c m)))
