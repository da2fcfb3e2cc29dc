-- How many leading bits two addresses share, by the leading zeros of their exclusive or: they agree on so many bits and no more.
-- Assumes nothing.
use mathlib.Core.Path.{◌≡◌, sym, ap, ◌∙◌}
use Prim.Native.Nat.{ℕ, zero, ◌+◌, ◌-◌, ◌*◌, ◌/◌, ◌^◌, ◌≤◌, ◌<◌}
use native.Mathlib.Nat.{div-eq_of_lt, div-lt_iff_lt-mul, lt_of_lt_of_le}
use native.Mathlib.Omega.{arith}
use lib.Bits.{bit_xor, xor_shr, xor_self, xor_lt, xor_add_and, and_le_l, and_le_r}
use lib.Count.{count_leading_zeros, leading_length}
use lib.Pow.{pow_mono, pow_pos, pow-add}
use Rattle.prefix.specs.Prefixes.{top}

-- numbers of which no bit differs are equal
xor_none : (a b : ℕ) → bit_xor a b ≡ zero → a ≡ b
xor_none a b e = omega (arith, xor_add_and a b, and_le_l a b, and_le_r a b)

module _ (a b : ℕ) (fa : a < 2 ^ 32) (fb : b < 2 ^ 32) where
  pub agree_to : (k : ℕ) → k ≤ count_leading_zeros 32 (bit_xor b a) → top k b ≡ top k a
  unfolding top
  agree_to k h =
      let s = leading_length 32 (bit_xor b a) (xor_lt 32 b a fb fa) in
      let few = pow_mono {i = s.0} {j = 32 - k} (omega (arith, s.1)) in
      xor_none _ _ (sym (xor_shr b a (32 - k)) ∙ div-eq_of_lt (lt_of_lt_of_le s.2 few))

  pub apart_from : (k : ℕ) → count_leading_zeros 32 (bit_xor b a) < k → k ≤ 32 → ¬ (top k b ≡ top k a)
  unfolding top
  apart_from k h short e =
      let s = leading_length 32 (bit_xor b a) (xor_lt 32 b a fb fa) in
      let none : bit_xor b a / 2 ^ (32 - k) ≡ zero = xor_shr b a (32 - k) ∙ ap (λ (x : ℕ). bit_xor x (a / 2 ^ (32 - k))) e ∙ xor_self (a / 2 ^ (32 - k)) in
      let small : bit_xor b a < 1 * 2 ^ (32 - k) = (div-lt_iff_lt-mul (pow_pos (32 - k))).0 (omega arith) in
      omega (arith, s.3, pow_mono {i = 32 - k + 1} {j = s.0} (omega (arith, s.1)), pow-add 2 (32 - k) 1)
