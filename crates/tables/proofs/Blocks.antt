-- A run of blocks, their cells changed by f of address and content: no block, one that is direct, one that points, and one run after
-- another. Assumes nothing.
use mathlib.Core.Path.{◌≡◌, sym, ap, ◌∙◌}
use mathlib.Core.Logic.{inl, inr}
use mathlib.Core.List.{List}
use Prim.Native.Nat.{ℕ, ◌+◌, ◌-◌, ◌*◌, ◌/◌, ◌^◌, ◌≤◌, ◌<◌}
use native.Mathlib.Nat.{le_refl}
use native.Mathlib.Omega.{arith}
use lib.ListN.{length, get_or, set}
use Rattle.ground.specs.Lists.{differs}
use Rattle.ground.proofs.Tests.{ltb?, by_test}
use Rattle.ground.proofs.Lists.{length_where, get_or_off, where_none, where_one, where_same, where_then, differing-refl, differing-le, differing_one, differing_then}
use Rattle.prefix.specs.declared.Prefix.{Prefix}
use Rattle.prefix.specs.Geometry.{block_size, block_start}
use Rattle.prefix.proofs.Prefixes.{ends_within}
use Rattle.prefix.proofs.Spans.{span-blocks}
use Rattle.cells.specs.Cells.{pointer_bit, point_to}
use Rattle.cells.specs.Memory.{Tables, Sized, tables_of}
use Rattle.cells.proofs.Lending.{few_firsts}
use Rattle.tables.specs.Cellwise.{cell_address}
use Rattle.tables.specs.inner.Ready.{Points, segment_at, Owns}
use Rattle.tables.specs.inner.Ranges.{Within, RunChanged, BlocksReady, BlocksChanged}
use Rattle.tables.proofs.Ranges.{in_range?, run_cong}
use Rattle.tables.proofs.Segments.{DirectWhere, Open, Among, direct_among?, open_among?, address_owned}

-- of one block
open_one : (T : Tables) (b i : ℕ) → Open (Among b (b + 1)) T i → get_or T.first b 0 ≡ point_to (i / block_size)
open_one T b i o =
    let q : o.block ≡ b = omega arith in
    rw q at o.points

module _ (t : Prefix) (f : ℕ → ℕ → ℕ) where
  pub blocks_none : (T : Tables) (from : ℕ) → BlocksChanged t f from from T T.first T.long 0
  blocks_none T from = record {
    firsts = where_none (direct_among? from from T.first) _ T.first (λ b d. omega arith);
    longs = where_none (open_among? from from T) _ T.long (λ i o. omega arith);
    count = omega (arith, differing-refl T.first, differing-refl T.long);
  }

  pub block_direct : {T : Tables} {b v d : ℕ} → b < length T.first → get_or T.first b 0 < pointer_bit → v ≡ f (block_start t b) (get_or T.first b 0)
      → d ≡ differs (get_or T.first b 0) v → BlocksChanged t f b (b + 1) T (set T.first b v) T.long d
  block_direct {T} {b} {v} l direct e ed = record {
    firsts = where_one (direct_among? b (b + 1) T.first) _ T.first b v e (record { meets = omega arith; direct = direct }) (λ j r. omega arith);
    longs = where_none (open_among? b (b + 1) T) _ T.long (λ i o. omega (arith, open_one T b i o));
    count = omega (arith, differing_one T.first b v l, differing-refl T.long);
  }

  pub block_points : {T : Tables} {b s from to r : ℕ} {long : List ℕ} → Owns T b s → from ≡ s * block_size → to ≡ from + block_size
      → RunChanged (λ i. f (cell_address t T i)) from to T.long long r → BlocksChanged t f b (b + 1) T T.first long r
  block_points {T} {b} {s} {from} {to} owns low high p = record {
    firsts = where_none (direct_among? b (b + 1) T.first) _ T.first (λ j d.
        let q : j ≡ b = omega arith in
        omega (arith, rw q at d.direct, owns.points));
    longs = p.is ∙ where_same (in_range? from to) (open_among? b (b + 1) T) _ T.long
        (λ i k.
        let q : i / block_size ≡ s = omega arith in
        record { block = b; meets = omega arith; owner = rw q owns.owner; points = rw q owns.points })
        (λ i o. omega (arith, open_one T b i o, owns.points));
    count = omega (arith, p.count, differing-refl T.first);
  }

-- a block that points owns its segment, and a run of that is lent
pub owns_one : {t : Prefix} {T : Tables} {b : ℕ} → BlocksReady t b (b + 1) T → Points T b → Owns T b (segment_at T b)
owns_one {b = b} ready pointer = ready.owned b (le_refl b) (omega arith) pointer

pub segment_within : {t : Prefix} {T : Tables} {b s from to : ℕ} → Sized t T → Owns T b s → s * block_size ≤ from → from ≤ to → to ≤ s * block_size + block_size
    → Within from to T.long
segment_within sized owns low ordered high = record { ordered = ordered; inside = omega (arith, owns.lent, sized.longs); few = omega arith }

-- a run of the segment of block b, from the place j on, by the addresses counted from the run's first cell
pub run_addressed : (f : ℕ → ℕ → ℕ) (t : Prefix) {T : Tables} {b s : ℕ} → Owns T b s → (j : ℕ) {from to a r : ℕ} {xs ys : List ℕ}
    → from ≡ s * block_size + j → to ≤ s * block_size + block_size → a ≡ block_start t b + j → RunChanged (λ i. f (a + (i - from))) from to xs ys r
    → RunChanged (λ i. f (cell_address t T i)) from to xs ys r
run_addressed f t {T} {b} {s} o j {from} {to} {a} ef et ea c =
    run_cong c (λ i. f (cell_address t T i)) (λ i x low high.
    let q : i / block_size ≡ s = omega arith in
    let e : a + (i - from) ≡ cell_address t T i = omega (arith, address_owned t o i q) in
    ap (λ (y : ℕ). f y x) e)

-- no block ends later than the addresses do
pub block_ends : {t : Prefix} {T : Tables} → Sized t T → t.address < 2 ^ 32 → {k : ℕ} → k ≤ length T.first → block_start t k ≤ 2 ^ 32
block_ends s small inside = omega (arith, s.firsts, ends_within s.territory.formed small, span-blocks s.territory)

-- the blocks from..mid are changed: what is left of the tables
module _ {t : Prefix} {f : ℕ → ℕ → ℕ} {T : Tables} {first long : List ℕ} {from mid r : ℕ} (p : BlocksChanged t f from mid T first long r) where
  pub same_firsts : length first ≡ length T.first
  same_firsts = ap length p.firsts ∙ length_where _ _ T.first

  pub same_longs : length long ≡ length T.long
  same_longs = ap length p.longs ∙ length_where _ _ T.long

  -- no more cells differ than there are
  pub few_blocks : {last : ℕ} → BlocksReady t from last T → r < 2 ^ 32
  few_blocks ready =
      omega (arith, few_firsts ready.sized, ready.sized.longs, ready.sized.few, p.count, differing-le T.first first, differing-le T.long long)

  -- a block from mid on has its cell still
  still : (b : ℕ) → mid ≤ b → get_or first b 0 ≡ get_or T.first b 0
  still b k = ap (λ (x : List ℕ). get_or x b 0) p.firsts ∙ get_or_off _ _ T.first b (direct_among? from mid T.first b) (λ d. omega arith)

  -- so that the blocks after mid can be changed
  pub ready_then : {last to : ℕ} → from ≤ mid → mid ≤ to → to ≤ last → BlocksReady t from last T → BlocksReady t mid to (tables_of first long T.owners)
  ready_then low high end ready = record {
    sized = record {
      territory = ready.sized.territory;
      firsts = same_firsts ∙ ready.sized.firsts;
      longs = same_longs ∙ ready.sized.longs;
      few = ready.sized.few;
    };
    ordered = high;
    within = omega (arith, same_firsts, ready.within);
    owned = λ b k l pointer.
        let o = ready.owned b (omega arith) (omega arith) (omega (arith, still b k)) in
        record { points = omega arith; lent = rw (still b k) o.lent; owner = rw (still b k) o.owner };
  }

  module _ {first' long' : List ℕ} {to r' : ℕ} (low : from ≤ mid) (high : mid ≤ to)
      (q : BlocksChanged t f mid to (tables_of first long T.owners) first' long' r') where
    abbrev U : Tables
    U = tables_of first long T.owners

    apart₁ : (b : ℕ) → DirectWhere (Among from mid) T.first b → DirectWhere (Among mid to) first b → ⊥
    apart₁ b d e = omega arith

    apart₂ : (i : ℕ) → Open (Among from mid) T i → Open (Among mid to) U i → ⊥
    apart₂ i o w = omega arith

    pub blocks_then : BlocksChanged t f from to T first' long' (r + r')
    blocks_then = record {
      firsts = where_then (direct_among? from mid T.first) (direct_among? mid to first) _ T.first first first' p.firsts q.firsts apart₁
          (direct_among? from to T.first)
          (λ b d. by_test (ltb? b mid)
          (λ k. inl (record { meets = omega arith; direct = d.direct }))
          (λ n. inr (record { meets = omega arith; direct = rw (still b (omega arith)) d.direct })))
          (λ b d. record { meets = omega arith; direct = d.direct })
          (λ b d. record { meets = omega arith; direct = rw (still b d.meets.0) at d.direct });
      longs = where_then (open_among? from mid T) (open_among? mid to U) _ T.long long long' p.longs q.longs apart₂
          (open_among? from to T)
          (λ i o. by_test (ltb? o.block mid)
          (λ k. inl (record { block = o.block; meets = omega arith; owner = o.owner; points = o.points }))
          (λ n. inr (record { block = o.block; meets = omega arith; owner = o.owner; points = still o.block (omega arith) ∙ o.points })))
          (λ i o. record { block = o.block; meets = omega arith; owner = o.owner; points = o.points })
          (λ i o. record { block = o.block; meets = omega arith; owner = o.owner; points = sym (still o.block o.meets.0) ∙ o.points });
      count = omega (
        arith,
        p.count,
        q.count,
        differing_then (direct_among? from mid T.first) (direct_among? mid to first) _ T.first first first' p.firsts q.firsts apart₁,
        differing_then (open_among? from mid T) (open_among? mid to U) _ T.long long long' p.longs q.longs apart₂,
      );
    }
