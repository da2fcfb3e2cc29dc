-- The words that bytes spell are those of their chunks of four, and look up on bytes is look up on these. Assumes nothing.
use Rattle.std.proofs.Common.{◌≡◌, ℕ, zero, suc, ◌/◌, ◌%◌, List, [], ◌∷◌, length, map, refl, sym, ap, ap₂, ◌∙◌, arith, Bool, ◌&&◌}
use Rattle.std.proofs.lemmas.List.{length-map}
use Rattle.std.specs.Int.{w32, from_le_bytes}
use Rattle.std.specs.Simd.{first_chunks}
use lib.Dec.{eqb}
use Rattle.ground.specs.declared.refusal.Refusal.{Refusal}
use Rattle.ground.specs.Refusals.{number as refusal_number}
use Rattle.ground.proofs.Refusals.{number_some}
use Rattle.ground.proofs.Tests.{Decides, eqb?, and?, iff?, stops, same_test, by_test, cond_on, cond_off}
use Rattle.prefix.specs.declared.Prefix.{Prefix}
use Rattle.prefix.specs.Prefixes.{contains}
use Rattle.cells.proofs.Lending.{lent_to_read?}
use Rattle.lookup.specs.Lookup.{refused, look_up, packed}
use Rattle.lookup.specs.inner.Standing.{standing_by, standing_of}
use Rattle.lookup.specs.Bytes.{spelt, words, look_up_bytes}
use Rattle.lookup.proofs.Reading.{number, lent_by?, stops_at}

spells : (a b c d : ℕ) → from_le_bytes w32 (a ∷ b ∷ c ∷ d ∷ []) ≡ spelt a b c d
spells a b c d = omega arith

chunk_words : (k : ℕ) (s : List ℕ) → length s / 4 ≡ k → map (from_le_bytes w32) (first_chunks 4 k s) ≡ words s
unfolding words
chunk_words zero (a ∷ b ∷ c ∷ d ∷ rest) e = absurd (omega arith)
chunk_words zero (a ∷ b ∷ c ∷ []) e = refl
chunk_words zero (a ∷ b ∷ []) e = refl
chunk_words zero (a ∷ []) e = refl
chunk_words zero [] e = refl
chunk_words (suc k) (a ∷ b ∷ c ∷ d ∷ rest) e = ap₂ ◌∷◌ (spells a b c d) (chunk_words k rest (omega arith))
chunk_words (suc k) (a ∷ b ∷ c ∷ []) e = absurd (omega arith)
chunk_words (suc k) (a ∷ b ∷ []) e = absurd (omega arith)
chunk_words (suc k) (a ∷ []) e = absurd (omega arith)
chunk_words (suc k) [] e = absurd (omega arith)

pub chunks_spell : (s : List ℕ) → map (from_le_bytes w32) (first_chunks 4 (length s / 4) s) ≡ words s
chunks_spell s = chunk_words (length s / 4) s refl

length-words : (s : List ℕ) → length (words s) ≡ length s / 4
unfolding words
length-words (a ∷ b ∷ c ∷ d ∷ rest) = let h = length-words rest in omega arith
length-words (a ∷ b ∷ c ∷ []) = refl
length-words (a ∷ b ∷ []) = refl
length-words (a ∷ []) = refl
length-words [] = refl

-- ---- the look up on them

-- both tables are whole numbers of cells
abbrev Whole : List ℕ → List ℕ → Type 0
Whole first long = (length first % 4 ≡ 0) × (length long % 4 ≡ 0)

module _ (first long : List ℕ) (t : Prefix) (a : ℕ) where
  whole? : Decides (Whole first long) (eqb (length first % 4) 0 && eqb (length long % 4) 0)
  whole? = and? (eqb? (length first % 4) 0) (eqb? (length long % 4) 0)

  -- where they are, the tests on bytes are those on the words that they spell
  in_words : Whole first long → standing_by 4 (length first) (length long) t a ≡ standing_of (length (words first)) (length (words long)) t a
  unfolding standing_by standing_of
  in_words w =
      let f = length-words first in
      let l = length-words long in
      ap (λ (x : Bool). number x (contains t a))
      (same_test (lent_by? 4 (length first) (length long) t)
      (iff? (lent_to_read? (length (words first)) (length (words long)) t)
      (λ r. record {
        territory = r.territory;
        parts_a_block = omega (arith, w, r.a_cell_a_block);
        whole_segments = omega (arith, w, r.whole_segments);
        not_too_many = omega (arith, w, r.not_too_many);
      })
      (λ r. record {
        territory = r.territory;
        a_cell_a_block = omega (arith, r.parts_a_block);
        whole_segments = omega (arith, r.whole_segments);
        not_too_many = omega (arith, r.not_too_many);
      })))

  -- and else they fail
  not_in_words : (Whole first long → ⊥) → standing_by 4 (length first) (length long) t a ≡ 1
  unfolding standing_by
  not_in_words n =
      ap (λ (x : Bool). number x (contains t a))
      (stops (lent_by? 4 (length first) (length long) t) (λ r. n (omega (arith, r.parts_a_block), omega (arith, r.whole_segments))))

  answers_words : Whole first long → packed (look_up (words first) (words long) t a) ≡ look_up_bytes first long t a
  unfolding look_up_bytes
  answers_words w = sym (ap packed (cond_on _ _ whole? w))

  -- the chunks are as many as the words
  many_words : (s : List ℕ) → length (first_chunks 4 (length s / 4) s) ≡ length (words s)
  many_words s = sym (length-map (first_chunks 4 (length s / 4) s) (from_le_bytes w32)) ∙ ap (λ (ws : List ℕ). length ws) (chunks_spell s)

  -- where nothing is refused, a call may read the chunks
  pub bytes_lent : standing_by 4 (length first) (length long) t a ≡ 0
      → standing_of (length (first_chunks 4 (length first / 4) first)) (length (first_chunks 4 (length long / 4) long)) t a ≡ 0
  bytes_lent z =
      by_test whole? (λ w. ap₂ (λ (f l : ℕ). standing_of f l t a) (many_words first) (many_words long) ∙ sym (in_words w) ∙ z)
      (λ n. absurd (omega (arith, not_in_words n, z)))

  -- and what they say is the answer
  pub bytes_read : standing_by 4 (length first) (length long) t a ≡ 0
      → packed (look_up (map (from_le_bytes w32) (first_chunks 4 (length first / 4) first)) (map (from_le_bytes w32) (first_chunks 4 (length long / 4) long)) t a)
      ≡ look_up_bytes first long t a
  bytes_read z =
      by_test whole? (λ w. ap₂ (λ (f l : List ℕ). packed (look_up f l t a)) (chunks_spell first) (chunks_spell long) ∙ answers_words w)
      (λ n. absurd (omega (arith, not_in_words n, z)))

  -- or it is refused
  pub bytes_stop : (r : Refusal) → refusal_number r ≡ standing_by 4 (length first) (length long) t a
      → packed (refused (refusal_number r)) ≡ look_up_bytes first long t a
  unfolding look_up_bytes look_up
  bytes_stop r e =
      by_test whole?
      (λ w. ap packed (stops_at refused _ _ _ _ _ _ (e ∙ in_words w) (λ z. let n = number_some r in cc)) ∙ answers_words w)
      (λ n. ap (λ (k : ℕ). packed (refused k)) (e ∙ not_in_words n) ∙ sym (ap packed (cond_off _ _ whole? n)))
