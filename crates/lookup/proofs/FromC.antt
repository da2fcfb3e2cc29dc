-- The words that an update leaves, passed as their bytes: look up from C answers what look up answers on the words. (256, 65536 and
-- 16777216 are the weights of bytes.) Assumes nothing.
use mathlib.Core.Path.{◌≡◌, refl, ap, ap₂, ◌∙◌}
use mathlib.Core.List.{List, [], ◌∷◌}
use Prim.Native.Nat.{ℕ, suc, ◌*◌, ◌/◌, ◌%◌}
use native.Mathlib.Omega.{arith}
use lib.ListN.{length}
use Rattle.ground.proofs.Tests.{and?, eqb?, cond_on}
use Rattle.prefix.specs.declared.Prefix.{Prefix}
use Rattle.lookup.specs.Lookup.{refused, packed, look_up}
use Rattle.lookup.specs.Bytes.{spelt, words, bytes_of, look_up_bytes}

words_bytes : (ws : List ℕ) → words (bytes_of ws) ≡ ws
unfolding words bytes_of
words_bytes [] = refl
words_bytes (w ∷ ws) =
    let whole : spelt (w % 256) (w / 256 % 256) (w / 65536 % 256) (w / 16777216) ≡ w = omega arith in ap₂ ◌∷◌ whole (words_bytes ws)

length_bytes : (ws : List ℕ) → length (bytes_of ws) ≡ 4 * length ws
unfolding bytes_of
length_bytes [] = refl
length_bytes (w ∷ ws) =
    let four : suc (suc (suc (suc (length (bytes_of ws))))) ≡ 4 * suc (length ws) = omega (arith, length_bytes ws) in
    four

pub look_up_from_c : (first long : List ℕ) (t : Prefix) (a : ℕ) → look_up_bytes (bytes_of first) (bytes_of long) t a ≡ packed (look_up first long t a)
unfolding look_up_bytes
look_up_from_c first long t a =
    let whole : (ws : List ℕ) → length (bytes_of ws) % 4 ≡ 0 = λ ws. omega (arith, length_bytes ws) in
    ap packed
    (cond_on (look_up (words (bytes_of first)) (words (bytes_of long)) t a) (refused 1)
    (and? (eqb? (length (bytes_of first) % 4) 0) (eqb? (length (bytes_of long) % 4) 0)) (whole first, whole long)
    ∙ ap₂ (λ (f l : List ℕ). look_up f l t a) (words_bytes first) (words_bytes long))
