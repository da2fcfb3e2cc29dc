-- The block counted from the base on tells the territory: it is below the number of blocks exactly for an address inside, and is then the
-- address's block. Assumes nothing.
use Rattle.std.proofs.Common.{◌≡◌, ℕ, ◌^◌, ◌<◌, ltb, arith}
use Rattle.ground.proofs.Tests.{Decides, ltb?, iff?}
use Rattle.ground.proofs.Cases.{by_lt}
use Rattle.prefix.specs.declared.Prefix.{Prefix}
use Rattle.prefix.specs.Prefixes.{Contains}
use Rattle.prefix.specs.Geometry.{Territory, blocks, block_of, block_from}
use Rattle.prefix.proofs.Prefixes.{in_range_lem, by_range, ends_within}
use Rattle.prefix.proofs.Spans.{span-blocks, block_inside}

module _ {t : Prefix} {a : ℕ} (h : Territory t) (fits : t.address < 2 ^ 32) (small : a < 2 ^ 32) where
  pub block_from_lem : Contains t a → block_from t.address a ≡ block_of t a
  block_from_lem c = let r = in_range_lem h.formed c in omega arith

  pub below_blocks : Contains t a → block_from t.address a < blocks t
  below_blocks c = omega (arith, block_from_lem c, block_inside h c)

  pub is_inside : block_from t.address a < blocks t → Contains t a
  is_inside l =
      let s = span-blocks h in
      let end = ends_within h.formed fits in
      by_lt a t.address (λ before. absurd (omega arith)) (λ after. by_range h.formed after (omega arith))

  pub inside? : (n : ℕ) → n ≡ blocks t → Decides (Contains t a) (ltb (block_from t.address a) n)
  inside? n e = iff? (ltb? (block_from t.address a) n) (λ l. is_inside (omega arith)) (λ c. omega (arith, below_blocks c))
