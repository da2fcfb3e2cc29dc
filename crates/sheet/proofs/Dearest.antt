-- What the sheet says in finance's words: of two lines the earlier one costs no less, in the rates as f64 and in true numbers; cents without
-- traffic stand before all traffic, and lines with neither after it. And one outcome only meets the sheet's contract. Assumes nothing.
use mathlib.Core.Path.{◌≡◌, refl, sym, ap, ap₂, ◌∙◌}
use mathlib.Core.Bool.{true, false, true≢false}
use mathlib.Core.List.{List}
use Prim.Native.Nat.{ℕ, ◌*◌, ◌≤◌, ◌<◌}
use native.Mathlib.Omega.{arith}
use lib.Dec.{T}
use lib.ListN.{get_or}
use lib.Ieee.{Float, lt, eq}
use borrow.Author.Tests.{le-ltb, ltb-false}
use Rattle.prefix.specs.Routes.{last_hop}
use Rattle.costs.specs.Lines.{rate_of}
use Rattle.costs.specs.Ranks.{Sound, class_of, ahead, before}
use Rattle.sheet.specs.Sheet.{Ranked, SheetIs}
use Rattle.ground.proofs.Cases.{by_lt, by_eq, by_cmp}
use Rattle.costs.proofs.Rates.{rates_tie, truly_above}
use Rattle.sheet.proofs.Counts.{hop_within}
use Rattle.costs.proofs.Costs.{class_rate, class_cents, class_none, traffic, ahead_lower, by_rates, by_cents, hop_word_is, in_order, before_order}
use Rattle.sheet.proofs.Unique.{ascends, one_ranking}
use Rattle.sheet.proofs.Refusing.{sound}

-- the rate of a hop
abbrev pub rate_at : List ℕ → List ℕ → ℕ → Float
rate_at octets cents h = rate_of (get_or octets h 0) (get_or cents h 0)

-- what is known of a hop a that stands before a hop b
pub record StandsBefore (octets cents : List ℕ) (a b : ℕ) : Type 0 where
  -- with traffic on both, the rate of a is not below that of b
  pub rates : 0 < get_or octets a 0 → 0 < get_or octets b 0 → lt (rate_at octets cents a) (rate_at octets cents b) ≡ false
  -- where it is above, as f64, a costs more for an octet in true numbers: cents of b / octets of b < cents of a / octets of a
  pub truly : 0 < get_or octets a 0 → 0 < get_or octets b 0 → lt (rate_at octets cents b) (rate_at octets cents a) ≡ true
      → get_or cents b 0 * get_or octets a 0 < get_or cents a 0 * get_or octets b 0
  -- where it is not, the two rates are the same f64, and a is the lower number
  pub ties : 0 < get_or octets a 0 → 0 < get_or octets b 0 → lt (rate_at octets cents b) (rate_at octets cents a) ≡ false
      → T (eq (rate_at octets cents a) (rate_at octets cents b)) × (a < b)
  -- with traffic on neither, a has no fewer cents
  pub no_traffic : get_or octets a 0 ≡ 0 → get_or octets b 0 ≡ 0 → get_or cents b 0 ≤ get_or cents a 0
  -- and at as many cents a is the lower number
  pub no_traffic_ties : get_or octets a 0 ≡ 0 → get_or octets b 0 ≡ 0 → get_or cents a 0 ≡ get_or cents b 0 → a < b
  -- first cents without traffic, then traffic, then neither
  pub classes : class_of (get_or octets a 0) (get_or cents a 0) ≤ class_of (get_or octets b 0) (get_or cents b 0)

-- ---- two hops, one of which ranks before the other

module _ (os cs : List ℕ) (l : Sound os cs) (a b : ℕ) (p : 0 < a) (q : 0 < b) (h : before os cs a b ≡ true) where
  abbrev oa : ℕ
  oa = get_or os a 0

  abbrev ca : ℕ
  ca = get_or cs a 0

  abbrev ob : ℕ
  ob = get_or os b 0

  abbrev cb : ℕ
  cb = get_or cs b 0

  words_order : (ahead ob cb oa ca ≡ false) × (ahead oa ca ob cb ≡ false → a < b)
  words_order = rw (hop_word_is os a p, hop_word_is cs a p, hop_word_is os b q, hop_word_is cs b q) at (in_order os cs l a b h)

  class_le : class_of oa ca ≤ class_of ob cb
  class_le = by_lt (class_of ob cb) (class_of oa ca) (λ g. absurd (true≢false (sym (ahead_lower ob cb oa ca g) ∙ words_order.0))) (λ le. le)

  level : 0 < oa → 0 < ob → class_of ob cb ≡ class_of oa ca
  level x y = class_rate ob cb (λ z. omega arith) ∙ sym (class_rate oa ca (λ z. omega arith))

  cents_fall : oa ≡ 0 → ob ≡ 0 → cb ≤ ca
  cents_fall x y =
      by_eq cb 0 (λ z. omega arith) (λ m.
      by_eq ca 0
      (λ z. absurd (omega (arith, class_le, class_cents ob cb y m, class_none oa ca x z)))
      (λ n. ltb-false ca cb (sym (by_cents ob cb oa ca (class_cents ob cb y m ∙ sym (class_cents oa ca x n)) (λ e. omega (arith, class_cents ob cb y m))) ∙ words_order.0)))

  cents_tie : oa ≡ 0 → ob ≡ 0 → ca ≡ cb → a < b
  cents_tie x y e =
      words_order.1 (by_cents oa ca ob cb (ap₂ class_of (x ∙ sym y) e) (λ f. omega (arith, traffic oa ca f)) ∙ le-ltb cb ca (omega arith))

  no_lower : 0 < oa → 0 < ob → lt (rate_at os cs a) (rate_at os cs b) ≡ false
  no_lower x y = sym (by_rates ob cb oa ca (level x y) (class_rate ob cb (λ z. omega arith))) ∙ words_order.0

  stands_before : StandsBefore os cs a b
  stands_before = record {
    rates = no_lower;
    truly = λ x y e. truly_above oa ca ob cb x (l.octets_small a p) (l.cents_small a p) y (l.octets_small b q) (l.cents_small b q) e;
    ties = λ x y e. (
      rates_tie oa ca ob cb x (l.octets_small a p) (l.cents_small a p) y (l.octets_small b q) (l.cents_small b q) (no_lower x y) e,
      words_order.1 (by_rates oa ca ob cb (sym (level x y)) (class_rate oa ca (λ z. omega arith)) ∙ e),
    );
    no_traffic = cents_fall;
    no_traffic_ties = cents_tie;
    classes = class_le;
  }

-- ---- two places of the sheet

-- A sheet that is not refused: no hop's word is above 2 ^ 53, and the hops are in order.
pub answered : {os cs hops hops' : List ℕ} → SheetIs os cs hops 0 hops' → Sound os cs × Ranked os cs hops'
answered {os} {cs} {hops} s = (sound os cs hops (sym s.code_is), s.filled refl)

module _ {os cs hops : List ℕ} (l : Sound os cs) (r : Ranked os cs hops) where
  -- The dearest first: of two places of the sheet the earlier one holds the dearer hop.
  pub dearest_first : (i j : ℕ) → i < j → j < last_hop → StandsBefore os cs (get_or hops i 0) (get_or hops j 0)
  dearest_first i j m n =
      stands_before os cs l (get_or hops i 0) (get_or hops j 0) (hop_within r.all i (omega arith)).0 (hop_within r.all j n).0
      (ascends (before_order os cs l) hops last_hop r.all.long r.order i j m (omega (arith, r.all.long)))

  abbrev class_at : ℕ → ℕ
  class_at i = class_of (get_or os (get_or hops i 0) 0) (get_or cs (get_or hops i 0) 0)

  lower_first : (i j : ℕ) → i < last_hop → j < last_hop → class_at j < class_at i → j < i
  lower_first i j m n g =
      by_cmp i j
      (λ w. absurd (omega (arith, (dearest_first i j w n).classes)))
      (λ e. absurd (omega (arith, ap class_at e)))
      (λ w. w)

  -- Cents without traffic stand before every line with traffic.
  pub no_traffic_first : (i j : ℕ) → i < last_hop → j < last_hop → 0 < get_or os (get_or hops i 0) 0 → get_or os (get_or hops j 0) 0 ≡ 0 → 0 < get_or cs (get_or hops j 0) 0 → j < i
  no_traffic_first i j m n x y z =
      let e : class_at i ≡ 1 = class_rate (get_or os (get_or hops i 0) 0) (get_or cs (get_or hops i 0) 0) (λ u. omega arith) in
      let f : class_at j ≡ 0 = class_cents (get_or os (get_or hops j 0) 0) (get_or cs (get_or hops j 0) 0) y (λ u. omega arith) in
      lower_first i j m n (omega arith)

  -- A line with neither octets nor cents stands after every line that has either.
  pub nothing_last : (i j : ℕ) → i < last_hop → j < last_hop → (get_or os (get_or hops i 0) 0 ≡ 0 → get_or cs (get_or hops i 0) 0 ≡ 0 → ⊥)
      → get_or os (get_or hops j 0) 0 ≡ 0 → get_or cs (get_or hops j 0) 0 ≡ 0 → i < j
  nothing_last i j m n x y z =
      let e : class_at j ≡ 2 = class_none (get_or os (get_or hops j 0) 0) (get_or cs (get_or hops j 0) 0) y z in
      lower_first j i n m
      (by_eq (get_or os (get_or hops i 0) 0) 0
      (λ u. omega (arith, class_cents (get_or os (get_or hops i 0) 0) (get_or cs (get_or hops i 0) 0) u (x u)))
      (λ u. omega (arith, class_rate (get_or os (get_or hops i 0) 0) (get_or cs (get_or hops i 0) 0) u)))

-- ---- one outcome

-- One sheet: for one input the number and the order of all hops are determined.
pub one_sheet : {os cs hops xs ys : List ℕ} {k m : ℕ} → SheetIs os cs hops k xs → SheetIs os cs hops m ys → (k ≡ m) × (xs ≡ ys)
one_sheet {os} {cs} {hops} {xs} {ys} {k} {m} p q =
    let e : k ≡ m = p.code_is ∙ sym q.code_is in (
      e,
      by_eq k 0
          (λ z. one_ranking (sound os cs hops (sym p.code_is ∙ z)) (p.filled z) (q.filled (sym e ∙ z)))
          (λ n. p.refused n ∙ sym (q.refused (λ z. n (e ∙ z)))),
    )
