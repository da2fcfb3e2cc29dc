-- The rate of a line, the quotient of two whole numbers of at most 2 ^ 53 each, as f64: their casts lose nothing, so it is their fraction,
-- rounded once. It is finite and not negative, so that rates compare as fractions do; and it keeps the order of the fractions. Assumes nothing.
use mathlib.Core.Path.{◌≡◌, refl, sym, ap, ◌∙◌, subst}
use mathlib.Core.Bool.{Bool, true, false, cond, ◌&&◌, ◌||◌, true≢false}
use mathlib.Core.Logic.{◌⊎◌, inl, inr}
use Prim.Native.Nat.{ℕ, ◌*◌, ◌^◌, ◌<◌, ◌≤◌}
use native.Mathlib.Nat.{mul-one, mul-pos, mul_assoc, mul_comm, mul_left_comm, eq-zero-or-pos, zero-mul}
use native.Mathlib.Omega.{arith}
use lib.Dec.{T, eqb, ltb, lit<, ltb→lt, eqb→eq}
use lib.IntN.{pos, negsuc}
use lib.Ieee.{Float, nan, inf, fin, Format, binary64, up, down, round, of_int, div, lt, eq, le}
use lib.Ieee.Fits.{down_pos, and_l}
use lib.Ieee.Exact.{HasValue}
use lib.Ieee.Back.{round_whole}
use lib.Ieee.Order.{round_mono}
use lib.Ieee.Scale.{finite, round_same}
use lib.Ieee.Positive.{positive, between, num, den}
use borrow.Author.Tests.{ne_eqb, eq-eqb, le-ltb, ltb-false}
use Rattle.ground.proofs.Cases.{by_lt}
use Rattle.costs.specs.Lines.{rate_of, RateSays}

-- ---- the casts lose nothing

cast_value : (n : ℕ) → n ≤ 2 ^ 53 → HasValue (of_int binary64 (pos n)) false n 1
unfolding of_int
cast_value n h = round_whole binary64 false n h

-- ---- a quotient of two values is their fraction, rounded once

turned : (a b v z : ℕ) → a * v * z * b ≡ a * (b * z * v)
turned a b v z = simp (mul_assoc, mul_comm, mul_left_comm)

-- the two fractions that `round` is handed are equal: x is a, as m * u / v with m * u = a * v, and y is b, as n * w / z
fractions : (a b mu nw v z : ℕ) → mu * 1 ≡ a * v → nw * 1 ≡ b * z → mu * z * b ≡ a * (nw * v)
fractions a b mu nw v z h k =
    ap (λ (x : ℕ). x * z * b) (sym (mul-one mu) ∙ h) ∙ (turned a b v z ∙ sym (ap (λ (x : ℕ). a * (x * v)) (sym (mul-one nw) ∙ k)))

above_zero : (b nw z : ℕ) → 0 < b → 0 < z → nw * 1 ≡ b * z → 0 < nw
above_zero b nw z hb hz k = let p = mul-pos hb hz in omega arith

not-zero : (n u : ℕ) → 0 < n * u → n ≡ 0 → ⊥
not-zero n u h z = let q = ap (λ (x : ℕ). x * u) z ∙ zero-mul u in omega arith

div_at : (f : Format) (x y : Float) (a b : ℕ) → 0 < b → HasValue x false a 1 → HasValue y false b 1 → div f x y ≡ round f false a b
unfolding div
div_at f nan y a b hb h k = absurd h
div_at f (inf s) y a b hb h k = absurd h
div_at f (fin s m e) nan a b hb h k = absurd k
div_at f (fin s m e) (inf t) a b hb h k = absurd k
div_at f (fin true m e) (fin t n d) a b hb h k = absurd (true≢false h.0)
div_at f (fin false m e) (fin true n d) a b hb h k = absurd (true≢false k.0)
div_at f (fin false m e) (fin false n d) a b hb h k =
    let p : 0 < n * up d = above_zero b (n * up d) (down d) hb (down_pos d) k.1 in
    ap (λ (t : Bool). cond t (cond (eqb m 0) nan (inf false)) (round f false (m * up e * down d) (n * up d * down e))) (ne_eqb n 0 (not-zero n (up d) p))
    ∙ round_same f false (m * up e * down d) (n * up d * down e) a b (mul-pos p (down_pos e)) hb (fractions a b (m * up e) (n * up d) (down e) (down d) h.1 k.1)

-- ---- the ends of the range, and zero, are what antt computes

top_is : round binary64 false (2 ^ 53) 1 ≡ fin false 1 (pos 53)
unfolding round
top_is = refl

bottom_is : round binary64 false 1 (2 ^ 53) ≡ fin false 1 (negsuc 52)
unfolding round
bottom_is = refl

zero_is : round binary64 false 0 1 ≡ fin false 0 (pos 0)
unfolding round
zero_is = refl

-- ---- finite and not negative

abbrev pub plain : Float → Bool
plain nan = false
plain (inf s) = false
plain (fin true m e) = false
plain (fin false m e) = true

positive_plain : (x : Float) → T (positive x) → T (plain x)
positive_plain nan p = absurd p
positive_plain (inf s) p = absurd p
positive_plain (fin true m e) p = absurd p
positive_plain (fin false m e) p = tt

plain_finite : (x : Float) → T (plain x) → T (finite x)
plain_finite nan p = absurd p
plain_finite (inf s) p = absurd p
plain_finite (fin s m e) p = tt

-- two such values compare as fractions do
pub lt_is : (x y : Float) → T (plain x) → T (plain y) → lt x y ≡ ltb (num x * den y) (num y * den x)
unfolding lt
lt_is nan y p q = absurd p
lt_is (inf s) y p q = absurd p
lt_is (fin true m e) y p q = absurd p
lt_is (fin false m e) nan p q = absurd q
lt_is (fin false m e) (inf t) p q = absurd q
lt_is (fin false m e) (fin true n d) p q = absurd q
lt_is (fin false m e) (fin false n d) p q = refl

lt_or_eq : (a b : ℕ) → T (ltb a b || (eqb a b && true)) → a ≤ b
lt_or_eq a b t = go (ltb a b) refl t
  where
    go : (s : Bool) → ltb a b ≡ s → T (s || (eqb a b && true)) → a ≤ b
    go true e u = let l = ltb→lt a b (subst T (sym e) tt) in omega arith
    go false e u = let l = eqb→eq a b (and_l (eqb a b) true u) in omega arith

le_cross : (x y : Float) → T (plain x) → T (plain y) → T (le x y) → num x * den y ≤ num y * den x
unfolding le lt eq
le_cross nan y p q h = absurd p
le_cross (inf s) y p q h = absurd p
le_cross (fin true m e) y p q h = absurd p
le_cross (fin false m e) nan p q h = absurd q
le_cross (fin false m e) (inf t) p q h = absurd q
le_cross (fin false m e) (fin true n d) p q h = absurd q
le_cross (fin false m e) (fin false n d) p q h = lt_or_eq (m * up e * down d) (n * up d * down e) h

-- of two such values neither of which is below the other, both are one
level_one : (x y : Float) → T (plain x) → T (plain y) → lt x y ≡ false → lt y x ≡ false → T (eq x y)
unfolding lt eq
level_one nan y p q h k = absurd p
level_one (inf s) y p q h k = absurd p
level_one (fin true m e) y p q h k = absurd p
level_one (fin false m e) nan p q h k = absurd q
level_one (fin false m e) (inf t) p q h k = absurd q
level_one (fin false m e) (fin true n d) p q h k = absurd q
level_one (fin false m e) (fin false n d) p q h k =
    let a = m * up e * down d in
    let b = n * up d * down e in
    subst (λ (t : Bool). T (t && true)) (sym (eq-eqb a b (omega (arith, ltb-false a b h, ltb-false b a k)))) tt

-- ---- the rate

module _ (o c : ℕ) (ho : 0 < o) (lo : o ≤ 2 ^ 53) (lc : c ≤ 2 ^ 53) where
  pub once : rate_of o c ≡ round binary64 false c o
  once = div_at binary64 (of_int binary64 (pos c)) (of_int binary64 (pos o)) c o ho (cast_value c lc) (cast_value o lo)

  most : T (le (round binary64 false c o) (fin false 1 (pos 53)))
  most = subst (λ (y : Float). T (le (round binary64 false c o) y)) top_is (round_mono binary64 c o (2 ^ 53) 1 ho (lit< tt) (omega arith))

  least : 0 < c → T (le (fin false 1 (negsuc 52)) (round binary64 false c o))
  least hc = subst (λ (y : Float). T (le y (round binary64 false c o))) bottom_is (round_mono binary64 1 (2 ^ 53) c o (lit< tt) ho (omega arith))

  some : 0 < c → T (positive (round binary64 false c o))
  some hc = between (fin false 1 (negsuc 52)) (round binary64 false c o) (fin false 1 (pos 53)) tt tt (least hc) most

  none : c ≡ 0 → round binary64 false c o ≡ fin false 0 (pos 0)
  none z = round_same binary64 false c o 0 1 ho (lit< tt) (omega arith) ∙ zero_is

  rounded_plain : (c ≡ 0) ⊎ (0 < c) → T (plain (round binary64 false c o))
  rounded_plain (inl z) = subst (λ (y : Float). T (plain y)) (sym (none z)) tt
  rounded_plain (inr h) = positive_plain (round binary64 false c o) (some h)

  pub rate_plain : T (plain (rate_of o c))
  rate_plain = subst (λ (y : Float). T (plain y)) (sym once) (rounded_plain (eq-zero-or-pos c))

  -- What is known of the rate of every line with traffic: it is the fraction cents / octets of whole numbers that are held exactly, rounded
  -- once; a number, at most 2 ^ 53, and 0 only where there are no cents.
  pub rate_says : RateSays o c (rate_of o c)
  rate_says = record {
    cents_kept = cast_value c lc;
    octets_kept = cast_value o lo;
    once = once;
    finite = plain_finite (rate_of o c) rate_plain;
    most = subst (λ (y : Float). T (le y (fin false 1 (pos 53)))) (sym once) most;
    none = λ z. once ∙ none z;
    some = λ h. subst (λ (y : Float). T (positive y)) (sym once) (some h);
  }

-- ---- two rates

module _ (o c o' c' : ℕ) (ho : 0 < o) (lo : o ≤ 2 ^ 53) (lc : c ≤ 2 ^ 53) (ho' : 0 < o') (lo' : o' ≤ 2 ^ 53) (lc' : c' ≤ 2 ^ 53) where
  -- Rounding keeps the order of the true rates: where c' / o' is at most c / o, so is its f64.
  pub true_order : c' * o ≤ c * o' → T (le (rate_of o' c') (rate_of o c))
  true_order h = rw (once o' c' ho' lo' lc', once o c ho lo lc) (round_mono binary64 c' o' c o ho' ho h)

  -- Rates that tie are the same f64.
  pub rates_tie : lt (rate_of o c) (rate_of o' c') ≡ false → lt (rate_of o' c') (rate_of o c) ≡ false → T (eq (rate_of o c) (rate_of o' c'))
  rates_tie h k = level_one (rate_of o c) (rate_of o' c') (rate_plain o c ho lo lc) (rate_plain o' c' ho' lo' lc') h k

  -- Equal true rates are one f64.
  pub true_tie : c' * o ≡ c * o' → rate_of o' c' ≡ rate_of o c
  true_tie h = once o' c' ho' lo' lc' ∙ (round_same binary64 false c' o' c o ho' ho h ∙ sym (once o c ho lo lc))

  not_above : c' * o ≤ c * o' → lt (rate_of o c) (rate_of o' c') ≡ false
  not_above h =
      let p = rate_plain o c ho lo lc in
      let q = rate_plain o' c' ho' lo' lc' in
      lt_is (rate_of o c) (rate_of o' c') p q
      ∙ le-ltb (num (rate_of o c) * den (rate_of o' c')) (num (rate_of o' c') * den (rate_of o c)) (le_cross (rate_of o' c') (rate_of o c) q p (true_order h))

-- A rate that is above another as f64 is above it in true numbers: c / o is more than c' / o'.
pub truly_above : (o c o' c' : ℕ) → 0 < o → o ≤ 2 ^ 53 → c ≤ 2 ^ 53 → 0 < o' → o' ≤ 2 ^ 53 → c' ≤ 2 ^ 53 → lt (rate_of o' c') (rate_of o c) ≡ true → c' * o < c * o'
truly_above o c o' c' ho lo lc ho' lo' lc' e =
    by_lt (c' * o) (c * o') (λ l. l) (λ g. absurd (true≢false (sym e ∙ not_above o' c' o c ho' lo' lc' ho lo lc g)))
