-- Open segments: the block that owns a segment and points to it, and what the tests of them decide; and that a cell's owner word, by which
-- the specification goes, and its block, from which look up comes, say the same where the block owns the segment. Assumes nothing.
use mathlib.Core.Path.{◌≡◌, refl, ap, subst, ◌∙◌}
use mathlib.Core.Bool.{Bool, false, not, ◌&&◌, and-true, and-false}
use mathlib.Core.List.{List}
use Prim.Native.Nat.{ℕ, zero, suc, ◌+◌, ◌*◌, ◌/◌, ◌%◌, ◌≤◌, ◌<◌}
use native.Mathlib.Omega.{arith}
use lib.Dec.{eqb}
use lib.ListN.{get_or}
use Rattle.ground.proofs.Tests.{Decides, fails, leb?, eqb?, and?, not?, iff?, passes, stops}
use Rattle.prefix.specs.declared.Prefix.{Prefix}
use Rattle.prefix.specs.Prefixes.{contains, Contains}
use Rattle.prefix.specs.Geometry.{block_size, block_start}
use Rattle.prefix.proofs.Prefixes.{contains?}
use Rattle.cells.specs.Cells.{pointer_bit, point_to, is_pointer}
use Rattle.cells.specs.Memory.{Tables}
use Rattle.tables.specs.Cellwise.{direct_in, owner_at, open_by, open_in, address_by, cell_address}
use Rattle.tables.specs.inner.Ready.{Owns}
use Rattle.tables.specs.inner.Ranges.{direct_among, open_among_by, open_among}
use Rattle.tables.proofs.Ranges.{in_range?}

-- ---- direct cells

-- P holds of the block, and its first cell is no pointer
pub record DirectWhere (P : ℕ → Type 0) (first : List ℕ) (block : ℕ) : Type 0 where
  pub meets : P block
  pub direct : get_or first block 0 < pointer_bit

direct? : {P : ℕ → Type 0} {s : ℕ → Bool} → ((b : ℕ) → Decides (P b) (s b)) → (first : List ℕ) (block : ℕ)
    → Decides (DirectWhere P first block) (s block && not (is_pointer (get_or first block 0)))
direct? d first block =
    iff? (and? (d block) (not? (leb? pointer_bit (get_or first block 0))))
    (λ h. record { meets = h.0; direct = below h.1 })
    (λ h. (h.meets, λ l. omega (arith, h.direct)))
  where
    below : (pointer_bit ≤ get_or first block 0 → ⊥) → get_or first block 0 < pointer_bit
    below n = omega arith

-- ---- cells of open segments

-- by its owner word, the cell i is in a segment of a block of which P holds and that points to the segment
pub record Open (P : ℕ → Type 0) (tables : Tables) (i : ℕ) : Type 0 where
  pub block : ℕ
  pub meets : P block
  pub owner : owner_at tables i ≡ block + 1
  pub points : get_or tables.first block 0 ≡ point_to (i / block_size)

-- a test by the owner word that asks these two
module _ {P : ℕ → Type 0} {test : ℕ → Bool} (d : (b : ℕ) → Decides (P b) (test b)) (tables : Tables) (i : ℕ) (by : ℕ → Bool) (none : by 0 ≡ false)
    (some : (b : ℕ) → by (suc b) ≡ eqb (get_or tables.first b 0) (point_to (i / block_size)) && test b) where
  open? : Decides (Open P tables i) (by (owner_at tables i))
  open? = go (owner_at tables i) refl
    where
      go : (w : ℕ) → owner_at tables i ≡ w → Decides (Open P tables i) (by w)
      go zero e = rw none (fails (λ o. omega (arith, o.owner)))
      go (suc b) e =
          rw (some b) (iff? (and? (eqb? (get_or tables.first b 0) (point_to (i / block_size))) (d b))
          (λ h. record { block = b; meets = h.1; owner = omega arith; points = h.0 })
          (λ o. let q : o.block ≡ b = omega (arith, o.owner) in (rw q at o.points, subst P q o.meets)))

-- ---- among the blocks from..to

abbrev pub Among : ℕ → ℕ → ℕ → Type 0
Among from to block = (from ≤ block) × (block < to)

pub direct_among? : (from to : ℕ) (first : List ℕ) (block : ℕ) → Decides (DirectWhere (Among from to) first block) (direct_among from to first block)
unfolding direct_among
direct_among? from to first block = direct? (in_range? from to) first block

pub open_among? : (from to : ℕ) (tables : Tables) (i : ℕ) → Decides (Open (Among from to) tables i) (open_among from to tables i)
unfolding open_among open_among_by
open_among? from to tables i = open? (in_range? from to) tables i (open_among_by from to tables.first i) refl (λ b. refl)

-- ---- in a prefix

pub direct_in? : (t p : Prefix) (first : List ℕ) (block : ℕ) → Decides (DirectWhere (λ b. Contains p (block_start t b)) first block) (direct_in t p first block)
unfolding direct_in
direct_in? t p first block = direct? (λ b. contains? p (block_start t b)) first block

pub open_in? : (t p : Prefix) (tables : Tables) (i : ℕ)
    → Decides (Open (λ b. Contains p (block_start t b + i % block_size)) tables i) (open_in t p tables i)
unfolding open_in open_by
open_in? t p tables i = open? (λ b. contains? p (block_start t b + i % block_size)) tables i (open_by t p tables.first i) refl (λ b. refl)

-- ---- which cells are in a prefix, once it is known what stands there

module _ (t p : Prefix) (first : List ℕ) (k : ℕ) where
  pub direct_in_lem : get_or first k 0 < pointer_bit → direct_in t p first k ≡ contains p (block_start t k)
  unfolding direct_in
  direct_in_lem h = rw (stops (leb? pointer_bit (get_or first k 0)) (λ g. omega arith)) (and-true (contains p (block_start t k)))

  pub pointer_in : (s : ℕ) → get_or first k 0 ≡ point_to s → direct_in t p first k ≡ false
  unfolding direct_in
  pointer_in s e = rw (passes (leb? pointer_bit (get_or first k 0)) (omega arith)) (and-false (contains p (block_start t k)))

-- by the owner word or by the block: the cell i of a segment that block k owns
module _ (t : Prefix) {tables : Tables} {k s : ℕ} (o : Owns tables k s) (i : ℕ) (q : i / block_size ≡ s) where
  owner_is : owner_at tables i ≡ suc k
  owner_is = let e : get_or tables.owners (i / block_size) 0 ≡ k + 1 = rw q o.owner in omega arith

  pub address_owned : cell_address t tables i ≡ block_start t k + i % block_size
  address_owned = ap (address_by t i) owner_is

  pub open_owned : (p : Prefix) → open_in t p tables i ≡ contains p (block_start t k + i % block_size)
  unfolding open_in open_by
  open_owned p =
      ap (open_by t p tables.first i) owner_is
      ∙ ap (λ (x : Bool). x && contains p (block_start t k + i % block_size)) (passes (eqb? (get_or tables.first k 0) (point_to (i / block_size))) (rw q o.points))

-- and of a free one
pub open_free : (t p : Prefix) (tables : Tables) (i : ℕ) → owner_at tables i ≡ 0 → open_in t p tables i ≡ false
unfolding open_in open_by
open_free t p tables i e = ap (open_by t p tables.first i) e

-- the same of the cell at the place i of segment s
pub segment_of_lem : (s i : ℕ) → i < block_size → (s * block_size + i) / block_size ≡ s
segment_of_lem s i h = omega arith

module _ (t p : Prefix) (tables : Tables) (s i : ℕ) (h : i < block_size) where
  place_of : (s * block_size + i) % block_size ≡ i
  place_of = omega arith

  pub free_in : get_or tables.owners s 0 ≡ 0 → open_in t p tables (s * block_size + i) ≡ false
  free_in e = open_free t p tables (s * block_size + i) (rw (segment_of_lem s i h) e)

  pub address_at : {k : ℕ} → Owns tables k s → cell_address t tables (s * block_size + i) ≡ block_start t k + i
  address_at {k} o = address_owned t o (s * block_size + i) (segment_of_lem s i h) ∙ ap (λ (j : ℕ). block_start t k + j) place_of

  pub owned_in : {k : ℕ} → Owns tables k s → open_in t p tables (s * block_size + i) ≡ contains p (block_start t k + i)
  owned_in {k} o = open_owned t o (s * block_size + i) (segment_of_lem s i h) p ∙ ap (λ (j : ℕ). contains p (block_start t k + j)) place_of
