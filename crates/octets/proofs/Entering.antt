-- What an answer of look up names, what one booking does to the words, and the numbers of look up. Assumes nothing.
use mathlib.Core.Path.{◌≡◌, refl, sym, ap, ap₂, subst, ◌∙◌}
use mathlib.Core.Bool.{Bool, cond, ◌&&◌}
use mathlib.Core.List.{List, map}
use Prim.Native.Nat.{ℕ, ◌+◌, ◌≤◌}
use native.Mathlib.Omega.{arith}
use lib.Dec.{eqb}
use lib.ListN.{length, get_or, set, replicate, length-set}
use Rattle.std.proofs.lemmas.List.{map-id}
use Rattle.ground.proofs.Tests.{Decides, holds, fails, leb?, eqb?, and?, iff?, stops, cond_off}
use Rattle.ground.proofs.Cases.{by_eq}
use Rattle.prefix.specs.Routes.{last_hop}
use Rattle.prefix.specs.declared.Prefix.{Prefix}
use Rattle.lookup.specs.Lookup.{Answer, look_up, answer_of, packed, unpacked_of}
use Rattle.lookup.specs.inner.Outcomes.{outcome_of}
use Rattle.lookup.proofs.Answers.{Told, told_look, unpacked}
use Rattle.octets.specs.Words.{word_count, most}
use Rattle.octets.specs.Booking.{Outcome, refused, add_to, refusal_of, enter, book}
use Rattle.octets.specs.Bookings.{names}
use Rattle.octets.specs.inner.Numbers.{IsNumber}

-- ---- clear

-- as many zeros as there were words
pub cleared : (words : List ℕ) → length words ≡ word_count → replicate {A = ℕ} (length words) 0 ≡ replicate word_count 0
cleared words l = ap (λ (n : ℕ). replicate {A = ℕ} n 0) l

-- ---- what an answer of look up names

-- a code that refuses no record is 0 or 8
no_refusal : {C : Type 0} (code : ℕ) → refusal_of code ≡ 0 → (code ≡ 0 → C) → (code ≡ 8 → C) → C
unfolding refusal_of
no_refusal code z zero eight = by_eq code 8 eight (λ n. zero (sym (cond_off 0 code (eqb? code 8) n) ∙ z))

-- the word that an answer names is that of its hop
pub names? : (r : Answer) → Told r → refusal_of r.code ≡ 0 → (h : ℕ) → Decides (h ≡ r.hop) (names r h)
names? r T z h = go (eqb? h 0)
  where
    go : {t : Bool} → Decides (h ≡ 0) t → Decides (h ≡ r.hop) (cond t (eqb r.code 8) (eqb r.code 0 && eqb r.hop h))
    go (holds q) =
        iff? (eqb? r.code 8) (λ e. q ∙ sym (T.refusal (λ o. omega arith)).1)
        (λ p. no_refusal r.code z (λ e. absurd (omega (arith, T.route e))) (λ e. e))
    go (fails n) =
        iff? (and? (eqb? r.code 0) (eqb? r.hop h)) (λ p. sym p.1)
        (λ p. no_refusal r.code z (λ e. (e, sym p)) (λ e. absurd (n (p ∙ (T.refusal (λ o. omega arith)).1))))

-- ---- one booking, by what it does to the words

-- accepted: no refusal of look up's, and the word of its hop took the amount; refused: the words are as they were
pub data Did (r : Answer) (amount : ℕ) (words : List ℕ) : Outcome → Type 0 where
  took : refusal_of r.code ≡ 0 → get_or words r.hop 0 + amount ≤ most
      → Did r amount words (record { code = 0; words = set words r.hop (get_or words r.hop 0 + amount) })
  left : (code : ℕ) → (code ≡ 0 → ⊥) → Did r amount words (refused code words)

pub did_enter : (r : Answer) (amount : ℕ) (words : List ℕ) → Did r amount words (enter r amount words)
unfolding enter add_to
did_enter r amount words = go (eqb? (refusal_of r.code) 0) (leb? (get_or words r.hop 0 + amount) most)
  where
    go : {s t : Bool} → Decides (refusal_of r.code ≡ 0) s → Decides (get_or words r.hop 0 + amount ≤ most) t
        → Did r amount words
        (cond s (cond t (record { code = 0; words = set words r.hop (get_or words r.hop 0 + amount) }) (refused 30 words)) (refused (refusal_of r.code) words))
    go (holds z) (holds l) = took z l
    go (holds z) (fails n) = left 30 (λ e. omega arith)
    go (fails n) d = left (refusal_of r.code) n

pub did_book : (first long : List ℕ) (t : Prefix) (a amount : ℕ) (words : List ℕ)
    → Did (look_up first long t a) amount words (book first long t a amount words)
unfolding book
did_book first long t a amount words = go (eqb? (length words) word_count)
  where
    go : {s : Bool} → Decides (length words ≡ word_count) s
        → Did (look_up first long t a) amount words (cond s (enter (look_up first long t a) amount words) (refused 1 words))
    go (holds e) = did_enter (look_up first long t a) amount words
    go (fails n) = left 1 (λ e. omega arith)

-- no booking changes how many words there are
pub did_long : {r : Answer} {amount : ℕ} {words : List ℕ} {o : Outcome} → Did r amount words o → length o.words ≡ length words
did_long {r} {amount} {words} (took z l) = length-set words r.hop (get_or words r.hop 0 + amount)
did_long (left code n) = refl

pub enter_long : (r : Answer) (amount : ℕ) (words : List ℕ) {o : Outcome} → o ≡ enter r amount words → length o.words ≡ length words
enter_long r amount words e = ap (λ (x : Outcome). length x.words) e ∙ did_long (did_enter r amount words)

-- a record that is refused adds nothing, whatever word is asked for
pub not_gained : (amount code : ℕ) → (code ≡ 0 → ⊥) → (asked : Bool) → cond (eqb code 0 && asked) amount 0 ≡ 0
not_gained amount code n asked = ap (λ (t : Bool). cond (t && asked) amount 0) (stops (eqb? code 0) n)

-- ---- the numbers of look up

pub number_told : {r : Answer} {n : ℕ} → Told r → n ≡ packed r → IsNumber n
number_told {r} T e =
    record {
      outcome = ap (λ (k : ℕ). answer_of (outcome_of k)) e ∙ T.outcome ∙ sym (unpacked T e);
      hop = subst (λ (s : Answer). s.hop ≤ last_hop) (sym (unpacked T e)) T.hop;
    }

-- on words as they are lent
pub is_number : (first long : List ℕ) (t : Prefix) (a n : ℕ) → n ≡ packed (look_up (map (λ k. k) first) (map (λ k. k) long) t a) → IsNumber n
is_number first long t a n e = number_told (told_look _ _ t a) e

pub unpacked_number : (first long : List ℕ) (t : Prefix) (a n : ℕ) → n ≡ packed (look_up (map (λ k. k) first) (map (λ k. k) long) t a)
    → unpacked_of n ≡ look_up first long t a
unpacked_number first long t a n e =
    unpacked (told_look _ _ t a) e ∙ ap₂ (λ (f l : List ℕ). look_up f l t a) (map-id first) (map-id long)
