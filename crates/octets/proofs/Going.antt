-- Bookings one after the other, as a loop that goes up and stores the number of each over what the room held; and that to book by all
-- answers of look up is to book each flow. Assumes nothing.
use mathlib.Core.Path.{◌≡◌, refl, sym, ap, ap₂, subst, ◌∙◌}
use mathlib.Core.Bool.{◌&&◌}
use mathlib.Core.List.{List, [], ◌∷◌, ◌++◌, map, append-nil}
use Prim.Native.Nat.{ℕ, zero, suc, ◌+◌, ◌≤◌, ◌<◌}
use native.Mathlib.Nat.{not-suc-le-zero, le_of_suc-le-suc}
use native.Mathlib.Numerals.{add-one}
use native.Mathlib.Omega.{arith}
use lib.Dec.{eqb}
use lib.ListN.{length, get_or, set, take, drop, length-set, drop_of_length-le}
use lib.Seq.{drop-cons, take_all, take-suc-set, append_snoc, drop-set-lt}
use Rattle.ground.proofs.Tests.{Decides, eqb?, and?, cond_on}
use Rattle.prefix.specs.declared.Prefix.{Prefix}
use Rattle.cells.specs.Memory.{lent_to_read}
use Rattle.lookup.specs.Lookup.{Answer, unpacked_of}
use Rattle.lookup.proofs.Answers.{told_look, unpacked}
use Rattle.bulk.proofs.Answering.{MayAnswer, may_answer?}
use Rattle.bulk.specs.All.{answer_of}
use Rattle.octets.specs.Words.{word_count}
use Rattle.octets.specs.Booking.{Outcome, enter, book}
use Rattle.octets.specs.Many.{Booked, each, book_each, book_all}
use Rattle.octets.specs.inner.Numbers.{AreNumbers, enter_number, enter_each}
use Rattle.octets.proofs.Entering.{did_enter, did_long, number_told}

-- ---- the loop

-- equal lists have equal heads and equal tails
heads : {x y : ℕ} {xs ys : List ℕ} → x ∷ xs ≡ y ∷ ys → x ≡ y
heads e = ap (λ (l : List ℕ). get_or l 0 0) e

tails : {x y : ℕ} {xs ys : List ℕ} → x ∷ xs ≡ y ∷ ys → xs ≡ ys
tails e = ap (drop 1) e

-- xs and ns are what is booked and ws the words before; at i, ys is the room and vs the words, and what is left, on these, makes what all makes
pub record Going (one : ℕ → ℕ → List ℕ → Outcome) (xs ns ws : List ℕ) (i : ℕ) (ys vs : List ℕ) : Type 0 where
  pub long : length ys ≡ length xs
  pub left : drop i ys ≡ drop i xs
  pub makes :
      record { codes = take i ys ++ (each one (drop i xs) (drop i ns) vs).codes; words = (each one (drop i xs) (drop i ns) vs).words }
      ≡ each one xs ns ws

module _ {one : ℕ → ℕ → List ℕ → Outcome} {xs ns ws : List ℕ} where
  pub going_none : Going one xs ns ws 0 xs ws
  going_none = record { long = refl; left = refl; makes = refl }

  module _ {i : ℕ} {ys vs : List ℕ} (g : Going one xs ns ws i ys vs) where
    -- the room at i still holds what is to be booked
    pub going_at : i < length xs → get_or ys i 0 ≡ get_or xs i 0
    going_at h = heads (sym (drop-cons ys i 0 (omega (arith, g.long))) ∙ g.left ∙ drop-cons xs i 0 h)

    going_suc : (o : Outcome) → o ≡ one (get_or ys i 0) (get_or ns i 0) vs → i < length xs → i < length ns
        → Going one xs ns ws (suc i) (set ys i o.code) o.words
    unfolding each
    going_suc o e h k =
        let x = get_or xs i 0 in
        let n = get_or ns i 0 in
        let same : o ≡ one x n vs = e ∙ ap (λ (a : ℕ). one a n vs) (going_at h) in
        let rest = each one (drop (suc i) xs) (drop (suc i) ns) in
        record {
          long = length-set ys i o.code ∙ g.long;
          left = drop-set-lt (suc i) ys i o.code (omega arith) ∙ tails (sym (drop-cons ys i 0 (omega (arith, g.long))) ∙ g.left ∙ drop-cons xs i 0 h);
          makes =
              ap (λ (l : List ℕ). record { codes = l ++ (rest o.words).codes; words = (rest o.words).words }) (take-suc-set ys i o.code (omega (arith, g.long)))
              ∙ ap (λ (l : List ℕ). record { codes = l; words = (rest o.words).words }) (append_snoc (take i ys) o.code (rest o.words).codes)
              ∙ ap (λ (q : Outcome). record { codes = take i ys ++ q.code ∷ (rest q.words).codes; words = (rest q.words).words }) same
              ∙ sym (ap₂ (λ (l m : List ℕ). record { codes = take i ys ++ (each one l m vs).codes; words = (each one l m vs).words }) (drop-cons xs i 0 h) (drop-cons ns i 0 k))
              ∙ g.makes;
        }

    -- one store
    pub going_more : (o : Outcome) → o ≡ one (get_or ys i 0) (get_or ns i 0) vs → i < length xs → i < length ns
        → Going one xs ns ws (i + 1) (set ys i o.code) o.words
    going_more o e h k = subst (λ (j : ℕ). Going one xs ns ws j (set ys i o.code) o.words) (sym (add-one i)) (going_suc o e h k)

    pub going_all : length xs ≤ i → record { codes = ys; words = vs } ≡ each one xs ns ws
    unfolding each
    going_all h =
        let done : drop i xs ≡ [] = drop_of_length-le xs h in
        sym (ap (λ (l : List ℕ). record { codes = l; words = vs }) (append-nil (take i ys) ∙ take_all i ys (omega (arith, g.long))))
        ∙ sym (ap (λ (l : List ℕ). record { codes = take i ys ++ (each one l (drop i ns) vs).codes; words = (each one l (drop i ns) vs).words }) done)
        ∙ g.makes

-- ---- all answers first

module _ (first long : List ℕ) (t : Prefix) where
  by_answers : (xs ns words : List ℕ) → length words ≡ word_count
      → enter_each (map (answer_of first long t) xs) ns words ≡ book_each first long t xs ns words
  unfolding each book
  by_answers [] ns words l = refl
  by_answers (a ∷ xs) [] words l = refl
  by_answers (a ∷ xs) (n ∷ ns) words l =
      let o = enter_number (answer_of first long t a) n words in
      let more = did_long (did_enter (unpacked_of (answer_of first long t a)) n words) in
      ap (λ (b : Booked). record { codes = o.code ∷ b.codes; words = b.words }) (by_answers xs ns o.words (more ∙ l))
      ∙ ap (λ (q : Outcome). let b = book_each first long t xs ns q.words in record { codes = q.code ∷ b.codes; words = b.words })
      (ap (λ (r : Answer). enter r n words) (unpacked (told_look first long t a) refl) ∙ sym (cond_on _ _ (eqb? (length words) word_count) l))

-- ---- the call, by what was tested

-- what look up leaves in the room are its numbers
pub are_numbers : (first long : List ℕ) (t : Prefix) (xs ys : List ℕ) → ys ≡ map (answer_of first long t) xs → AreNumbers ys
are_numbers first long t xs ys e = subst AreNumbers (sym e) (go xs)
  where
    go : (l : List ℕ) → AreNumbers (map (answer_of first long t) l)
    go [] k m = absurd (not-suc-le-zero m)
    go (x ∷ l) zero m = number_told (told_look first long t x) refl
    go (x ∷ l) (suc k) m = go l k (le_of_suc-le-suc m)

module _ (first long : List ℕ) (t : Prefix) (addresses amounts codes words : List ℕ) where
  -- what the call asks
  abbrev Asks : Type 0
  Asks = ((length words ≡ word_count) × (length amounts ≡ length addresses)) × MayAnswer first long t addresses codes

  asks? : Decides Asks (eqb (length words) word_count && eqb (length amounts) (length addresses)
      && (lent_to_read (length first) (length long) t && eqb (length addresses) (length codes)))
  asks? = and? (and? (eqb? (length words) word_count) (eqb? (length amounts) (length addresses))) (may_answer? first long t addresses codes)

  pub booked_each : Asks → {b : Booked} → b ≡ enter_each (map (answer_of first long t) addresses) amounts words
      → record { code = 0; words = b.words; codes = b.codes } ≡ book_all first long t addresses amounts codes words
  unfolding book_all
  booked_each a e =
      ap (λ (x : Booked). record { code = 0; words = x.words; codes = x.codes }) (e ∙ by_answers first long t addresses amounts words a.0.0)
      ∙ sym (cond_on _ _ asks? a)
