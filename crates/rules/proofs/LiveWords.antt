-- The live words of a list are those before its first 0. Assumes nothing.
use mathlib.Core.Path.{◌≡◌, refl, sym, ap, ◌∙◌}
use mathlib.Core.Bool.{Bool, true, false, cond}
use mathlib.Core.List.{List, [], ◌∷◌}
use Prim.Native.Nat.{ℕ, zero, suc, ◌≤◌, ◌<◌}
use native.Mathlib.Omega.{arith}
use lib.Dec.{eqb}
use lib.ListN.{length, get_or, take, replicate}
use lib.Seq.{take-nil, get_or-take}
use Rattle.ground.proofs.Tests.{eqb?, cond_on, cond_off}
use Rattle.rules.specs.Rules.{live_words}

-- ---- one word more

pub live_some : (w : ℕ) (ws : List ℕ) → (w ≡ 0 → ⊥) → live_words (w ∷ ws) ≡ w ∷ live_words ws
unfolding live_words
live_some w ws n = cond_off [] (w ∷ live_words ws) (eqb? w 0) n

pub live-zero : (w : ℕ) (ws : List ℕ) → w ≡ 0 → live_words (w ∷ ws) ≡ []
unfolding live_words
live-zero w ws e = cond_on [] (w ∷ live_words ws) (eqb? w 0) e

-- ---- the first words of the list

pub live-take : (ws : List ℕ) → live_words ws ≡ take (length (live_words ws)) ws
unfolding live_words
live-take [] = refl
live-take (w ∷ ws) = go (eqb w 0) (live-take ws)
  where
    go : (t : Bool) → live_words ws ≡ take (length (live_words ws)) ws → cond t [] (w ∷ live_words ws) ≡ take (length (cond t [] (w ∷ live_words ws))) (w ∷ ws)
    go true ih = refl
    go false ih = ap (λ (vs : List ℕ). w ∷ vs) ih

pub live-within : (ws : List ℕ) → length (live_words ws) ≤ length ws
unfolding live_words
live-within [] = omega arith
live-within (w ∷ ws) = go (eqb w 0) (live-within ws)
  where
    go : (t : Bool) → length (live_words ws) ≤ length ws → length (cond t [] (w ∷ live_words ws)) ≤ suc (length ws)
    go true ih = omega arith
    go false ih = omega arith

pub live_at : (ws : List ℕ) (i : ℕ) → i < length (live_words ws) → get_or (live_words ws) i 0 ≡ get_or ws i 0
live_at ws i h = ap (λ (vs : List ℕ). get_or vs i 0) (live-take ws) ∙ get_or-take (length (live_words ws)) ws i 0 h

-- up to the first 0, or to the end
pub live_first : (ws : List ℕ) (n : ℕ) → n ≤ length ws → ((i : ℕ) → i < n → get_or ws i 0 ≡ 0 → ⊥) → get_or ws n 0 ≡ 0 → live_words ws ≡ take n ws
unfolding live_words
live_first [] n h some zeros = sym (take-nil n)
live_first (w ∷ ws) zero h some zeros = live-zero w ws zeros
live_first (w ∷ ws) (suc n) h some zeros =
    live_some w ws (some 0 (omega arith))
    ∙ ap (λ (vs : List ℕ). w ∷ vs) (live_first ws n (omega arith) (λ i l. some (suc i) (omega arith)) zeros)

-- cleared words
pub live_none : (n : ℕ) → live_words (replicate n 0) ≡ []
unfolding live_words
live_none zero = refl
live_none (suc n) = live-zero 0 (replicate n 0) refl
