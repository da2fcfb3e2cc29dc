-- The order of the hops by cost: first those with cents and no octets, the most cents first; then those with octets, the highest rate first;
-- then those with neither. At equal cost the lower number comes first. Assumes nothing.
use Rattle.std.specs.Prelude.{◌≡◌, Bool, true, false, cond, List, ℕ, zero, suc, ◌≤◌, ◌<◌, ltb, eqb, length, get_or}
use Rattle.std.specs.Float.Ieee.{lt}
use Rattle.octets.specs.Words.{word_count, most}
use Rattle.costs.specs.Lines.{rate_of}

-- what the sheet's tests let pass: a word for each hop, and none of a hop above 2 ^ 53. What stands at 0 is no hop's
pub record Sound (octets cents : List ℕ) : Type 0 where
  pub octets_long : length octets ≡ word_count
  pub cents_long : length cents ≡ word_count
  pub octets_small : (h : ℕ) → 0 < h → get_or octets h 0 ≤ most
  pub cents_small : (h : ℕ) → 0 < h → get_or cents h 0 ≤ most

-- 0 for cents without octets, 1 for octets, 2 for neither
unfoldable pub class_of : ℕ → ℕ → ℕ
class_of octets cents = cond (eqb octets 0) (cond (eqb cents 0) 2 0) 1

-- within a class: the first line costs more than the second
unfoldable pub dearer : ℕ → ℕ → ℕ → ℕ → ℕ → Bool
dearer zero octets cents octets' cents' = ltb cents' cents
dearer (suc zero) octets cents octets' cents' = lt (rate_of octets' cents') (rate_of octets cents)
dearer (suc (suc k)) octets cents octets' cents' = false

-- the first line goes before the second by cost alone
unfoldable pub ahead : ℕ → ℕ → ℕ → ℕ → Bool
unfolding class_of dearer
ahead octets cents octets' cents' =
    cond (ltb (class_of octets cents) (class_of octets' cents')) true
    (cond (ltb (class_of octets' cents') (class_of octets cents)) false
    (dearer (class_of octets cents) octets cents octets' cents'))

-- a before b, where `there` says that a goes ahead of b and `back` that b goes ahead of a: a tie goes to the lower number
unfoldable pub tie_broken : Bool → Bool → ℕ → ℕ → Bool
tie_broken there back a b = cond there true (cond back false (ltb a b))

-- the word of a hop; 0 is no hop, and has none
unfoldable pub hop_word : List ℕ → ℕ → ℕ
hop_word words zero = 0
hop_word words (suc h) = get_or words (suc h) 0

-- hop a ranks before hop b
unfoldable pub before : List ℕ → List ℕ → ℕ → ℕ → Bool
unfolding ahead tie_broken hop_word
before octets cents a b =
    tie_broken
    (ahead (hop_word octets a) (hop_word cents a) (hop_word octets b) (hop_word cents b))
    (ahead (hop_word octets b) (hop_word cents b) (hop_word octets a) (hop_word cents a))
    a
    b
