-- After every history of bookings from cleared words, each word holds the octets that look up named it for, the words sum to the octets of
-- all accepted records, and none is above 2 ^ 53. Assumes nothing.
use mathlib.Core.Path.{◌≡◌, refl, sym, ap, ◌∙◌}
use mathlib.Core.Bool.{cond, ◌&&◌}
use mathlib.Core.List.{List, [], ◌∷◌}
use Prim.Native.Nat.{ℕ, ◌+◌, ◌≤◌, ◌<◌}
use native.Mathlib.Omega.{arith}
use lib.Dec.{eqb}
use lib.ListN.{length, get_or, set, replicate, length-replicate, get_or-replicate}
use lib.Seq.{get_or-set_same, get_or-set_other}
use Rattle.ground.specs.Sums.{sum}
use Rattle.ground.proofs.Sums.{sum_none, sum-change}
use Rattle.ground.proofs.Cases.{by_eq}
use Rattle.ground.proofs.Tests.{eqb?, cond_on, cond_off}
use Rattle.prefix.specs.declared.Prefix.{Prefix}
use Rattle.lookup.specs.Lookup.{Answer}
use Rattle.lookup.proofs.Answers.{Told, told_look}
use Rattle.octets.specs.Words.{word_count, most}
use Rattle.octets.specs.Booking.{Outcome, clear_octets}
use Rattle.octets.specs.Many.{each, book_each}
use Rattle.octets.specs.Bookings.{Bookings, none, ◌booking◌, words_after, is_accepted, names, answer_to, octets_for, octets_all, also_all, Balances}
use Rattle.octets.proofs.Entering.{names?, Did, took, left, did_book, did_long, not_gained}

-- ---- one booking

-- what is gained: the amount where the number is 0
abbrev gained : Outcome → ℕ → ℕ
gained o amount = cond (eqb o.code 0) amount 0

-- what word h gains: the amount where the number is 0 and the answer names h
abbrev gained_by : Outcome → Answer → ℕ → ℕ → ℕ
gained_by o r amount h = cond (eqb o.code 0 && names r h) amount 0

module _ (r : Answer) (T : Told r) (amount : ℕ) (words : List ℕ) (long : length words ≡ word_count) where
  hop_lent : r.hop < length words
  hop_lent = omega (arith, T.hop)

  each_gains : {o : Outcome} → Did r amount words o → (h : ℕ) → get_or o.words h 0 ≡ get_or words h 0 + gained_by o r amount h
  each_gains (took z l) h =
      by_eq h r.hop
      (λ e. ap (λ (k : ℕ). get_or (set words r.hop (get_or words r.hop 0 + amount)) k 0) e
      ∙ get_or-set_same words r.hop (get_or words r.hop 0 + amount) 0 hop_lent
      ∙ ap (λ (k : ℕ). get_or words k 0 + amount) (sym e)
      ∙ ap (λ (k : ℕ). get_or words h 0 + k) (sym (cond_on amount 0 (names? r T z h) e)))
      (λ n. get_or-set_other words r.hop h (get_or words r.hop 0 + amount) 0 n
      ∙ omega (arith, cond_off amount 0 (names? r T z h) n))
  each_gains (left code n) h = omega (arith, not_gained amount code n (names r h))

  all_gain : {o : Outcome} → Did r amount words o → sum word_count (λ h. get_or o.words h 0) ≡ sum word_count (λ h. get_or words h 0) + gained o amount
  all_gain (took z l) =
      let at = r.hop in
      let new = set words at (get_or words at 0 + amount) in
      omega (
        arith,
        sum-change word_count (λ h. get_or new h 0) (λ h. get_or words h 0) at (omega (arith, T.hop)) (λ k m n. get_or-set_other words at k (get_or words at 0 + amount) 0 n),
        get_or-set_same words at (get_or words at 0 + amount) 0 hop_lent,
      )
  all_gain (left code n) = omega (arith, cond_off amount 0 (eqb? code 0) n)

  each_fits : {o : Outcome} → Did r amount words o → ((h : ℕ) → h < word_count → get_or words h 0 ≤ most)
      → (h : ℕ) → h < word_count → get_or o.words h 0 ≤ most
  each_fits (took z l) fits h m =
      by_eq h r.hop
      (λ e. omega (
        arith,
        ap (λ (k : ℕ). get_or (set words r.hop (get_or words r.hop 0 + amount)) k 0) e,
        get_or-set_same words r.hop (get_or words r.hop 0 + amount) 0 hop_lent,
      ))
      (λ n. omega (arith, get_or-set_other words r.hop h (get_or words r.hop 0 + amount) 0 n, fits h m))
  each_fits (left code n) fits h m = fits h m

-- ---- every history

module _ (w : List ℕ) (lent : length w ≡ word_count) where
  cleared : words_after w none ≡ replicate word_count 0
  unfolding words_after clear_octets
  cleared = ap (λ (o : Outcome). o.words) (cond_on _ _ (eqb? (length w) word_count) lent)

  words_long : (b : Bookings) → length (words_after w b) ≡ word_count
  unfolding words_after
  words_long none = ap length cleared ∙ length-replicate {A = ℕ} word_count 0
  words_long (b booking f) =
      did_long (did_book f.first f.long f.territory f.address f.amount (words_after w b)) ∙ words_long b

  -- The sentence that finance relies on: where every octet is.
  pub balances : (b : Bookings) → Balances w b
  unfolding words_after is_accepted octets_for octets_all
  balances none = record {
    each_word = λ h m. zero h m;
    all_words = sum_none word_count (λ h. get_or (words_after w none) h 0) zero;
    no_more = λ h m. omega (arith, zero h m);
  }
    where
      zero : (h : ℕ) → h < word_count → get_or (words_after w none) h 0 ≡ 0
      zero h m = ap (λ (x : List ℕ). get_or x h 0) cleared ∙ get_or-replicate word_count h 0 0 m
  balances (b booking f) =
      let B = balances b in
      let r = answer_to f in
      let T = told_look f.first f.long f.territory f.address in
      let words = words_after w b in
      let long = words_long b in
      let D = did_book f.first f.long f.territory f.address f.amount words in
      record {
        each_word = λ h m. omega (arith, each_gains r T f.amount words long D h, B.each_word h m);
        all_words = omega (arith, all_gain r T f.amount words long D, B.all_words);
        no_more = each_fits r T f.amount words long D B.no_more;
      }

-- A call for many is so many bookings of a history: what it leaves of the words is what they leave.
pub many_booked : (w first long : List ℕ) (t : Prefix) (xs ns : List ℕ) (b : Bookings)
    → (book_each first long t xs ns (words_after w b)).words ≡ words_after w (also_all first long t xs ns b)
unfolding each also_all words_after
many_booked w first long t [] ns b = refl
many_booked w first long t (a ∷ xs) [] b = refl
many_booked w first long t (a ∷ xs) (n ∷ ns) b =
    many_booked w first long t xs ns (b booking record { first = first; long = long; territory = t; address = a; amount = n })
