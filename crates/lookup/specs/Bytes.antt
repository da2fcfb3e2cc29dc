-- Tables as bytes, four to a cell, the lowest first, and the look up on them as one number. Assumes nothing.
use Rattle.std.specs.Prelude.{ℕ, ◌+◌, ◌*◌, ◌/◌, ◌%◌, cond, ◌&&◌, List, [], ◌∷◌, eqb, length}
use Rattle.prefix.specs.declared.Prefix.{Prefix}
use Rattle.lookup.specs.Lookup.{refused, packed, look_up}

-- the word that four bytes spell: 256, 65536 and 16777216 are the weights of bytes, here and below
abbrev pub spelt : ℕ → ℕ → ℕ → ℕ → ℕ
spelt a b c d = a + b * 256 + c * 65536 + d * 16777216

-- the words that bytes spell
unfoldable pub words : List ℕ → List ℕ
words (a ∷ b ∷ c ∷ d ∷ rest) = spelt a b c d ∷ words rest
words (a ∷ b ∷ c ∷ []) = []
words (a ∷ b ∷ []) = []
words (a ∷ []) = []
words [] = []

-- the bytes that spell words
unfoldable pub bytes_of : List ℕ → List ℕ
bytes_of [] = []
bytes_of (w ∷ ws) = w % 256 ∷ w / 256 % 256 ∷ w / 65536 % 256 ∷ w / 16777216 ∷ bytes_of ws

-- the look up on the words, and refusal 1 where a length is no multiple of 4
unfoldable pub look_up_bytes : List ℕ → List ℕ → Prefix → ℕ → ℕ
look_up_bytes first long t a =
    packed (cond (eqb (length first % 4) 0 && eqb (length long % 4) 0) (look_up (words first) (words long) t a) (refused 1))
