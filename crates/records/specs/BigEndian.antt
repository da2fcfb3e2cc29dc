-- Numbers of two and of four bytes, big-endian: the number that bytes spell, and the bytes of a number. Assumes nothing.
use Rattle.std.specs.Prelude.{ℕ, ◌+◌, ◌*◌, ◌/◌, ◌%◌, ◌^◌, List, [], ◌∷◌, slice_index}

abbrev pub join2 : ℕ → ℕ → ℕ
join2 a b = a * 2 ^ 8 + b

abbrev pub join4 : ℕ → ℕ → ℕ → ℕ → ℕ
join4 a b c d = a * 2 ^ 24 + b * 2 ^ 16 + c * 2 ^ 8 + d

-- the number that the bytes from the index i on spell
abbrev pub u16_at : List ℕ → ℕ → ℕ
u16_at bytes i = join2 (slice_index bytes i) (slice_index bytes (i + 1))

abbrev pub u32_at : List ℕ → ℕ → ℕ
u32_at bytes i = join4 (slice_index bytes i) (slice_index bytes (i + 1)) (slice_index bytes (i + 2)) (slice_index bytes (i + 3))

-- the bytes of a number below 2 ^ 16, and of one below 2 ^ 32
abbrev pub split2 : ℕ → List ℕ
split2 n = n / 2 ^ 8 ∷ n % 2 ^ 8 ∷ []

abbrev pub split4 : ℕ → List ℕ
split4 n = n / 2 ^ 24 ∷ n / 2 ^ 16 % 2 ^ 8 ∷ n / 2 ^ 8 % 2 ^ 8 ∷ n % 2 ^ 8 ∷ []
