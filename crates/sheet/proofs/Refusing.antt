-- When the sheet is refused: what its tests decide. Assumes nothing.
use mathlib.Core.Path.{◌≡◌, refl, sym, ap, ◌∙◌}
use mathlib.Core.Bool.{◌&&◌}
use mathlib.Core.List.{List, [], ◌∷◌}
use Prim.Native.Nat.{ℕ, zero, suc, ◌+◌, ◌-◌, ◌≤◌, zero-le}
use native.Mathlib.Omega.{arith}
use lib.Dec.{eqb, leb}
use lib.ListN.{length, get_or, drop}
use lib.Seq.{get_or-drop}
use Rattle.prefix.specs.Routes.{last_hop}
use Rattle.octets.specs.Words.{word_count, most}
use Rattle.ground.proofs.Tests.{Decides, holds, leb?, eqb?, and?, iff?, cond_on, cond_off, by_test}
use Rattle.costs.specs.Ranks.{Sound}
use Rattle.sheet.specs.Sheet.{Ranked, within, sheet_code, SheetIs}
use Rattle.std.specs.List.{list_all}
use Rattle.sheet.proofs.Heaps.{place}

-- ---- the words

-- no word from an index on has passed 2 ^ 53
abbrev pub Small : ℕ → List ℕ → Type 0
Small from words = (k : ℕ) → from ≤ k → get_or words k 0 ≤ most

-- as the library's test of all words
pub within_all : (words : List ℕ) → within words ≡ list_all (λ w. leb w most) words
unfolding within
within_all [] = refl
within_all (w ∷ ws) = ap (λ t. leb w most && t) (within_all ws)

all_within? : (words : List ℕ) → Decides ((k : ℕ) → get_or words k 0 ≤ most) (within words)
unfolding within
all_within? [] = holds (λ k. zero-le)
all_within? (w ∷ ws) = iff? (and? (leb? w most) (all_within? ws)) (λ h. both h.0 h.1) (λ h. (h 0, λ k. h (suc k)))
  where
    both : w ≤ most → ((k : ℕ) → get_or ws k 0 ≤ most) → (k : ℕ) → get_or (w ∷ ws) k 0 ≤ most
    both h t zero = h
    both h t (suc k) = t k

pub within? : (from : ℕ) (words : List ℕ) → Decides (Small from words) (within (drop from words))
within? from words =
    iff? (all_within? (drop from words))
    (λ h k l. omega (arith, h (k - from), get_or-drop from words (k - from) 0, place words (from + (k - from)) k (omega arith)))
    (λ h k. omega (arith, h (from + k) (omega arith), get_or-drop from words k 0))

-- ---- the tests

abbrev Sizes : List ℕ → List ℕ → List ℕ → Type 0
Sizes os cs hops = ((length os ≡ word_count) × (length cs ≡ word_count)) × (length hops ≡ last_hop)

-- past all tests
pub record Tested (os cs hops : List ℕ) : Type 0 where
  pub sizes : Sizes os cs hops
  pub octets : Small 0 os
  pub cents : Small 1 cs

module _ (os cs hops : List ℕ) where
  sizes? : Decides (Sizes os cs hops) (eqb (length os) word_count && eqb (length cs) word_count && eqb (length hops) last_hop)
  sizes? = and? (and? (eqb? (length os) word_count) (eqb? (length cs) word_count)) (eqb? (length hops) last_hop)

  code_1 : (Sizes os cs hops → ⊥) → sheet_code os cs hops ≡ 1
  unfolding sheet_code
  code_1 n = cond_off _ _ sizes? n

  code_30 : Sizes os cs hops → (Small 0 os → ⊥) → sheet_code os cs hops ≡ 30
  unfolding sheet_code
  code_30 s n = cond_on _ _ sizes? s ∙ cond_off _ _ (within? 0 os) n

  code_31 : Sizes os cs hops → Small 0 os → (Small 1 cs → ⊥) → sheet_code os cs hops ≡ 31
  unfolding sheet_code
  code_31 s o n = cond_on _ _ sizes? s ∙ (cond_on _ _ (within? 0 os) o ∙ cond_off _ _ (within? 1 cs) n)

  code_0 : Tested os cs hops → sheet_code os cs hops ≡ 0
  unfolding sheet_code
  code_0 t = cond_on _ _ sizes? t.sizes ∙ (cond_on _ _ (within? 0 os) t.octets ∙ cond_on _ _ (within? 1 cs) t.cents)

pub filled_0 : {os cs hops hops' : List ℕ} → Tested os cs hops → Ranked os cs hops' → SheetIs os cs hops 0 hops'
filled_0 {os} {cs} {hops} t r = record { code_is = sym (code_0 os cs hops t); refused = λ n. absurd (n refl); filled = λ e. r }

-- ---- what is not refused is sound

pub tested_sound : {os cs hops : List ℕ} → Tested os cs hops → Sound os cs
tested_sound t = record {
  octets_long = t.sizes.0.0;
  cents_long = t.sizes.0.1;
  octets_small = λ h p. t.octets h zero-le;
  cents_small = λ h p. t.cents h p;
}

pub sound : (os cs hops : List ℕ) → sheet_code os cs hops ≡ 0 → Sound os cs
sound os cs hops e =
    by_test (sizes? os cs hops)
    (λ s. by_test (within? 0 os)
    (λ o. by_test (within? 1 cs)
    (λ c. tested_sound {hops = hops} (record { sizes = s; octets = o; cents = c }))
    (λ n. absurd (omega (arith, code_31 os cs hops s o n))))
    (λ n. absurd (omega (arith, code_30 os cs hops s n))))
    (λ n. absurd (omega (arith, code_1 os cs hops n)))
