-- What a change inside one prefix costs at most: the blocks that the prefix does not touch cost nothing. Assumes nothing.
use mathlib.Core.Path.{◌≡◌, sym, ap, subst}
use mathlib.Core.Logic.{⊎_elim}
use mathlib.Core.Bool.{Bool, true, false, cond}
use mathlib.Core.List.{List}
use Prim.Native.Nat.{ℕ, ◌+◌, ◌-◌, ◌*◌, ◌^◌, ◌≤◌, ◌<◌}
use native.Mathlib.Omega.{arith}
use lib.Pow.{pow_pos}
use Rattle.ground.specs.Sums.{sum}
use Rattle.ground.proofs.Tests.{by_test}
use Rattle.ground.proofs.Sums.{sum-le, sum_window, sum_const}
use Rattle.prefix.specs.declared.Prefix.{Prefix}
use Rattle.prefix.specs.Prefixes.{WellFormed, Contains, Encloses}
use Rattle.prefix.specs.Geometry.{Territory, block_start, block_of, blocks, block_size, width}
use Rattle.prefix.specs.Price.{is_open, differ, block_price, price}
use Rattle.prefix.specs.declared.Route.{Route}
use Rattle.prefix.specs.Routes.{Match, no_route, best}
use Rattle.prefix.proofs.Blocks.{Opens, same?, differ_same, differ-other, block_none}
use Rattle.prefix.proofs.Spans.{touches, blocks_inside, opens_only}

-- ---- what a block costs at most

differ-most : (m n : Match) → differ m n ≤ 1
differ-most m n = by_test (same? m n) (λ e. omega (arith, differ_same m n e)) (λ d. omega (arith, differ-other m n d))

sum-most : (f g : ℕ → Match) → sum block_size (λ i. differ (f i) (g i)) ≤ block_size
sum-most f g = omega (arith, sum-le block_size (λ i. differ (f i) (g i)) (λ i. 1) (λ i h. differ-most (f i) (g i)), sum_const block_size 1)

block_most : (x y : Bool) (rs vs : List Route) (a : ℕ) → block_price x y rs vs a ≤ 257
unfolding block_price
block_most false false rs vs a = omega (arith, differ-most (best rs a) (best vs a))
block_most true true rs vs a = omega (arith, sum-most (λ i. best rs (a + i)) (λ i. best vs (a + i)))
block_most false true rs vs a = omega (arith, sum-most (λ i. no_route) (λ i. best vs (a + i)))
block_most true false rs vs a = omega (arith, sum-most (λ i. no_route) (λ i. best rs (a + i)))

-- a block that is as open as it was: 1, and 255 more if it is open
block_same : (x : Bool) (rs vs : List Route) (a more : ℕ) → 255 ≤ more → block_price x x rs vs a ≤ 1 + cond x more 0
unfolding block_price
block_same false rs vs a more h = omega (arith, differ-most (best rs a) (best vs a))
block_same true rs vs a more h = omega (arith, sum-most (λ i. best rs (a + i)) (λ i. best vs (a + i)))

-- ---- the blocks that a prefix touches

module _ (t p : Prefix) (h : Territory t) (w : WellFormed p) (e : Encloses t p) where
  abbrev b : ℕ
  b = block_of t p.address

  -- ---- a change of the list that only the addresses of the prefix see

  module _ (rs vs : List Route) (local : (a : ℕ) → ¬ Contains p a → best rs a ≡ best vs a)
      (as_open : (k : ℕ) → ¬ Opens width p (block_start t k) → is_open vs (block_start t k) ≡ is_open rs (block_start t k)) where
    cost : ℕ → ℕ
    cost k = let a = block_start t k in block_price (is_open rs a) (is_open vs a) rs vs a

    outside : (k : ℕ) → ¬ ((b ≤ k) × (k < b + blocks p)) → cost k ≡ 0
    unfolding cost
    outside k n =
        block_none _ _ rs vs (block_start t k)
        (sym (as_open k (λ o. let q = opens_only t p k h e o in n (omega (arith, pow_pos (width - p.length))))))
        (λ i l. local (block_start t k + i) (λ c. n (touches h w e k i l c)))

    price-touched : price t rs vs ≡ sum (blocks p) (λ i. cost (b + i))
    unfolding price cost
    price-touched =
        sum_window (blocks t) b (blocks p) _ (blocks_inside h w e) (λ k l o. outside k (λ i. ⊎_elim (λ q. omega arith) (λ q. omega arith) o))

    pub long_bound : width < p.length → price t rs vs ≤ 257
    unfolding cost
    long_bound long =
        let z : width - p.length ≡ 0 = omega arith in
        let one : blocks p ≡ 1 = ap (λ (n : ℕ). 2 ^ n) z in
        let most = sum-le (blocks p) (λ i. cost (b + i)) (λ i. 257) (λ i l. block_most _ _ rs vs (block_start t (b + i))) in
        let c = sum_const (blocks p) 257 in
        let d = ap (λ (n : ℕ). n * 257) one in
        omega (arith, price-touched)

    pub short_bound : (more : ℕ) → 255 ≤ more → p.length ≤ width → price t rs vs ≤ sum (blocks p) (λ i. 1 + cond (is_open rs (block_start t (b + i))) more 0)
    unfolding cost
    short_bound more m s =
        subst (λ (x : ℕ). x ≤ sum (blocks p) (λ i. 1 + cond (is_open rs (block_start t (b + i))) more 0)) (sym price-touched)
        (sum-le (blocks p) _ _ (λ i l.
        let a = block_start t (b + i) in
        subst (λ (y : Bool). block_price (is_open rs a) y rs vs a ≤ 1 + cond (is_open rs a) more 0)
        (sym (as_open (b + i) (λ o. let q = o.long in omega arith)))
        (block_same (is_open rs a) rs vs a more m)))
