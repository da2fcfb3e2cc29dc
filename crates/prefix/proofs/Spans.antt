-- The addresses of a prefix as ranges of blocks and of cells. A prefix of length up to 24 contains whole blocks; a longer one lies in one
-- block, and is a run of places there. Assumes nothing.
use Rattle.std.proofs.Common.{◌≡◌, ℕ, ◌+◌, ◌-◌, ◌*◌, ◌%◌, ◌^◌, ◌<◌, ◌≤◌, sym, ap, ◌∙◌, subst, arith, lit≤, pow_pos, pow_mono, pow-add}
use native.Mathlib.Nat.{mod-le}
use lib.Pow.{mod-mod-pow}
use Rattle.ground.proofs.Cases.{by_lt}
use Rattle.ground.proofs.Tests.{Decides, leb?, and?, iff?}
use Rattle.prefix.specs.declared.Prefix.{Prefix}
use Rattle.prefix.specs.Prefixes.{span, top, WellFormed, Contains, Encloses}
use Rattle.prefix.specs.Geometry.{width, block_size, is_territory, Territory, runs, blocks, block_of, block_start}
use Rattle.prefix.proofs.Prefixes.{well_formed?, in_range_lem, by_range, ends_inside}
use Rattle.prefix.proofs.Blocks.{Opens}

pub is_territory? : (t : Prefix) → Decides (Territory t) (is_territory t)
unfolding is_territory
is_territory? t =
    iff? (and? (leb? t.length width) (well_formed? t)) (λ h. record { wide = h.0; formed = h.1 }) (λ h. (h.wide, h.formed))

-- ---- runs of any width w that is at least the prefix's length

module _ (w : ℕ) (narrow : w ≤ 32) (p : Prefix) (short : p.length ≤ w) where
  bits : w - p.length + (32 - w) ≡ 32 - p.length
  bits = omega arith

  -- the prefix has so many whole runs
  pub span-runs : span p.length ≡ runs w p * span w
  span-runs = subst (λ (n : ℕ). 2 ^ n ≡ runs w p * span w) bits (pow-add 2 (w - p.length) (32 - w))

  -- and starts with one
  pub starts_a_run : WellFormed p → p.address % span w ≡ 0
  starts_a_run f =
      let clear : p.address % 2 ^ (w - p.length + (32 - w)) ≡ 0 = rw bits f.clear in
      let none : 0 % span w ≡ 0 = omega (arith, mod-le 0 (span w)) in
      sym (mod-mod-pow p.address (w - p.length) (32 - w)) ∙ ap (λ (n : ℕ). n % span w) clear ∙ none

-- ---- blocks

pub aligned : {t : Prefix} → Territory t → t.address % block_size ≡ 0
aligned {t} h = starts_a_run width (lit≤ tt) t h.wide h.formed

-- the span of a territory is that of its blocks
pub span-blocks : {t : Prefix} → Territory t → span t.length ≡ blocks t * block_size
span-blocks {t} h = span-runs width (lit≤ tt) t h.wide

-- an address of the territory is in one of its blocks
pub block_inside : {t : Prefix} {a : ℕ} → Territory t → Contains t a → block_of t a < blocks t
block_inside {t} {a} h c = let r = in_range_lem h.formed c in omega (arith, span-blocks h)

pub few_blocks : (t : Prefix) → blocks t ≤ 2 ^ width
few_blocks t = pow_mono {i = width - t.length} {j = width} (omega arith)

pub some_block : (p : Prefix) → 0 < blocks p
some_block p = pow_pos (width - p.length)

-- a prefix longer than 24 lies in one block
pub one_block : (p : Prefix) → width < p.length → blocks p ≡ 1
one_block p h = let z : width - p.length ≡ 0 = omega arith in ap (λ (n : ℕ). 2 ^ n) z

module _ {t p : Prefix} (h : Territory t) (w : WellFormed p) (e : Encloses t p) where
  pub past_base : t.address ≤ p.address
  past_base = (in_range_lem h.formed e.inside).0

  -- the block that the prefix starts in is one of the territory
  pub block_lent : block_of t p.address < blocks t
  block_lent = let r = in_range_lem h.formed e.inside in omega (arith, span-blocks h)

  -- ---- a prefix of length up to 24

  module _ (short : p.length ≤ width) where
    pub whole : Territory p
    whole = record { wide = short; formed = w }

    pub starts : p.address ≡ block_start t (block_of t p.address)
    starts = omega (arith, past_base, aligned h, aligned whole)

    whole_inside : block_of t p.address + blocks p ≤ blocks t
    whole_inside = omega (arith, starts, ends_inside h.formed w e, span-blocks h, span-blocks whole)

    -- an address of the block k is in it exactly if the block is one of its own
    pub blocks_in : (k j : ℕ) → j < block_size → Contains p (block_start t k + j) → (block_of t p.address ≤ k) × (k < block_of t p.address + blocks p)
    blocks_in k j l c = let r = in_range_lem w c in omega (arith, starts, span-blocks whole)

    pub by_blocks : (k j : ℕ) → j < block_size → block_of t p.address ≤ k → k < block_of t p.address + blocks p → Contains p (block_start t k + j)
    by_blocks k j l low high = by_range w (omega (arith, starts)) (omega (arith, starts, span-blocks whole))

  -- ---- a longer prefix

  module _ (long : width < p.length) where
    -- the block that it lies in, as a prefix
    block : Prefix
    block = record { address = p.address - p.address % block_size; length = width }

    pub run_inside : p.address % block_size + span p.length ≤ block_size
    unfolding block
    run_inside =
        let f : WellFormed block = record { short = lit≤ tt; clear = omega arith } in
        let inside : Contains block p.address = by_range f (omega arith) (omega arith) in
        omega (arith, ends_inside f w (record { longer = omega arith; inside = inside }))

    pub starts_in : p.address ≡ block_start t (block_of t p.address) + p.address % block_size
    starts_in = omega (arith, past_base, aligned h)

    -- an address at the place j of the block k is in it exactly if the block is its own and the place is in its run
    pub run_in : (k j : ℕ) → j < block_size → Contains p (block_start t k + j)
        → (k ≡ block_of t p.address) × (p.address % block_size ≤ j) × (j < p.address % block_size + span p.length)
    run_in k j l c = let r = in_range_lem w c in omega (arith, starts_in, run_inside)

    pub by_run : (k j : ℕ) → k ≡ block_of t p.address → p.address % block_size ≤ j → j < p.address % block_size + span p.length → Contains p (block_start t k + j)
    by_run k j e low high = by_range w (omega (arith, starts_in)) (omega (arith, starts_in))

  -- ---- of any length

  -- the blocks that the prefix touches are the territory's
  pub blocks_inside : block_of t p.address + blocks p ≤ blocks t
  blocks_inside = by_lt width p.length (λ long. omega (arith, one_block p long, block_lent)) whole_inside

  -- an address of the prefix lies in a block that it touches
  pub touches : (k j : ℕ) → j < block_size → Contains p (block_start t k + j) → (block_of t p.address ≤ k) × (k < block_of t p.address + blocks p)
  touches k j l c =
      by_lt width p.length (λ long. let r = (run_in long k j l c).0 in omega (arith, one_block p long)) (λ short. blocks_in short k j l c)

-- a prefix longer than 24 opens its own block
pub opens-own : (t p : Prefix) → Territory t → Encloses t p → width < p.length → Opens width p (block_start t (block_of t p.address))
unfolding top
opens-own t p h e long = record { long = long; inside = omega (arith, aligned h, (in_range_lem h.formed e.inside).0) }

-- and no other
pub opens_only : (t p : Prefix) (k : ℕ) → Territory t → Encloses t p → Opens width p (block_start t k) → k ≡ block_of t p.address
unfolding top
opens_only t p k h e o = let q = o.inside in omega (arith, aligned h, (in_range_lem h.formed e.inside).0)
