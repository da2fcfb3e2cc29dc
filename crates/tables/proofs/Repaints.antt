-- A repaint of a prefix is one of a run of blocks, or of one run of cells in a segment: what the loops require and leave is what the
-- repaint requires and leaves. Assumes nothing.
use mathlib.Core.Path.{◌≡◌, refl, sym, ap, subst, ◌∙◌}
use mathlib.Core.List.{List}
use Prim.Native.Nat.{ℕ, ◌+◌, ◌-◌, ◌/◌, ◌%◌, ◌≤◌, ◌<◌}
use native.Mathlib.Nat.{add-zero, mod-lt}
use native.Mathlib.Omega.{arith}
use lib.Dec.{lit<}
use lib.ListN.{length, get_or}
use Rattle.ground.specs.Lists.{change_where}
use Rattle.ground.proofs.Lists.{where_none, where_same, differing-refl}
use Rattle.prefix.specs.declared.Prefix.{Prefix}
use Rattle.prefix.specs.Prefixes.{span, Contains}
use Rattle.prefix.specs.declared.geometry.Blocks.{Blocks}
use Rattle.prefix.specs.Geometry.{width, block_size, block_start, block_of, blocks, touched}
use Rattle.prefix.proofs.Spans as spans
use Rattle.cells.specs.Cells.{point_to}
use Rattle.cells.specs.Memory.{Tables, tables_of}
use Rattle.tables.specs.Cellwise.{cell_address, repainted}
use Rattle.tables.specs.Changes.{left, leaves}
use Rattle.tables.specs.inner.Ready.{Points, segment_at, Owns, Ready, Repaintable, Closable}
use Rattle.tables.specs.inner.Ranges.{in_range, Within, PrefixRun, RunChanged, BlocksReady, BlocksChanged}
use Rattle.tables.proofs.Changes.{tables_are, left_is}
use Rattle.tables.proofs.Ranges.{in_range?}
use Rattle.tables.proofs.Blocks.{segment_within, run_addressed}
use Rattle.tables.proofs.Segments.{Open, direct_among?, open_among?, direct_in?, open_in?}

-- ---- a prefix of length up to 24: whole blocks

module _ {t p : Prefix} {T : Tables} (ready : Ready t p T) where
  pub block_lent : {b : ℕ} → b ≡ block_of t p.address → b < length T.first
  block_lent at = omega (arith, spans.block_lent ready.sized.territory ready.formed ready.inside, ready.sized.firsts)

  module _ (short : p.length ≤ width) {bs : Blocks} (is : bs ≡ touched t p) where
    abbrev e : ℕ
    e = bs.from + bs.count

    from : bs.from ≡ block_of t p.address
    from = ap (λ (x : Blocks). x.from) is

    count : bs.count ≡ blocks p
    count = ap (λ (x : Blocks). x.count) is

    pub blocks_ready : BlocksReady t bs.from e T
    blocks_ready = record {
      sized = ready.sized;
      ordered = omega arith;
      within = omega (arith, from, count, ready.sized.firsts, spans.blocks_inside ready.sized.territory ready.formed ready.inside);
      owned = λ k low high pointer. ready.owned k (omega (arith, from)) (omega (arith, from, count)) pointer;
    }

    inside : (k j : ℕ) → j < block_size → Contains p (block_start t k + j) → (bs.from ≤ k) × (k < e)
    inside k j l c = omega (arith, from, count, spans.blocks_in ready.sized.territory ready.formed ready.inside short k j l c)

    contained : (k j : ℕ) → j < block_size → (bs.from ≤ k) × (k < e) → Contains p (block_start t k + j)
    contained k j l r =
        spans.by_blocks ready.sized.territory ready.formed ready.inside short k j l (omega (arith, from)) (omega (arith, from, count))

    pub blocks-repainted : (f : ℕ → ℕ → ℕ) {first long : List ℕ} {r : ℕ} → BlocksChanged t f bs.from e T first long r
        → left r (tables_of first long T.owners) ≡ leaves (repainted t p f) T
    unfolding repainted
    blocks-repainted f c =
        left_is (repainted t p f) T
        (tables_are
        (c.firsts ∙ where_same (direct_among? bs.from e T.first) (direct_in? t p T.first) _ T.first
        (λ k d. record { meets = subst (Contains p) (add-zero _) (contained k 0 (lit< tt) d.meets); direct = d.direct })
        (λ k d. record { meets = inside k 0 (lit< tt) (subst (Contains p) (sym (add-zero _)) d.meets); direct = d.direct }))
        (c.longs ∙ where_same (open_among? bs.from e T) (open_in? t p T) _ T.long
        (λ i o. record { block = o.block; meets = contained o.block (i % block_size) (mod-lt i (lit< tt)) o.meets; owner = o.owner; points = o.points })
        (λ i o. record { block = o.block; meets = inside o.block (i % block_size) (mod-lt i (lit< tt)) o.meets; owner = o.owner; points = o.points }))
        refl)
        c.count

-- ---- a longer prefix, whose block points: one run in its segment

pub closable : {t p : Prefix} {T : Tables} → Repaintable t p T → width < p.length → Closable t p T
closable h long = record { ready = h.ready; longer = long; has_segment = h.has_segment long }

module _ {t p : Prefix} {T : Tables} (h : Closable t p T) {b : ℕ} (at : b ≡ block_of t p.address) where
  pub points : Points T b
  points = rw at h.has_segment

  pub owns : Owns T b (segment_at T b)
  owns = h.ready.owned b (omega arith) (omega (arith, spans.some_block p)) points

  -- no direct cell is in the prefix, and a cell of an open segment that is lies in this one
  pub firsts_stay : (f : ℕ → ℕ → ℕ) → T.first ≡ (repainted t p f T).first
  unfolding repainted
  firsts_stay f =
      where_none (direct_in? t p T.first) _ T.first (λ k d.
      let own : Contains p (block_start t k + 0) = subst (Contains p) (sym (add-zero _)) d.meets in
      let q = spans.run_in h.ready.sized.territory h.ready.formed h.ready.inside h.longer k 0 (lit< tt) own in
      let same : k ≡ b = omega arith in
      let e : get_or T.first k 0 ≡ point_to (segment_at T b) = rw same owns.points in
      omega (arith, d.direct))

  pub in_segment : (i : ℕ) → Open (λ k. Contains p (block_start t k + i % block_size)) T i
      → (i / block_size ≡ segment_at T b) × (p.address % block_size ≤ i % block_size) × (i % block_size < p.address % block_size + span p.length)
  in_segment i o =
      let q = spans.run_in h.ready.sized.territory h.ready.formed h.ready.inside h.longer o.block (i % block_size)
      (mod-lt i (lit< tt)) o.meets in
      let same : o.block ≡ b = omega arith in
      let e : get_or T.first b 0 ≡ point_to (i / block_size) = rw same at o.points in
      omega arith

  module _ {s from to : ℕ} (same : s ≡ segment_at T b) (run : PrefixRun p s from to) where
    pub run_within : Within from to T.long
    run_within =
        let i = spans.run_inside h.ready.sized.territory h.ready.formed h.ready.inside h.longer in
        segment_within h.ready.sized owns (omega (arith, run.low)) (omega (arith, run.high)) (omega (arith, run.low, run.high))

    -- by the addresses counted from the run's first cell
    pub run_counted : (f : ℕ → ℕ → ℕ) {r : ℕ} {xs ys : List ℕ} → RunChanged (λ i. f (p.address + (i - from))) from to xs ys r
        → RunChanged (λ i. f (cell_address t T i)) from to xs ys r
    run_counted f c =
        let begins = spans.starts_in h.ready.sized.territory h.ready.formed h.ready.inside h.longer in
        let within = spans.run_inside h.ready.sized.territory h.ready.formed h.ready.inside h.longer in
        run_addressed f t owns (p.address % block_size) (omega (arith, run.low)) (omega (arith, run.low, run.high)) (omega arith) c

    pub run_tables : (f : ℕ → ℕ → ℕ) {long : List ℕ} → long ≡ change_where (in_range from to) (λ i. f (cell_address t T i)) T.long
        → tables_of T.first long T.owners ≡ repainted t p f T
    unfolding repainted
    run_tables f c =
        let in_block = spans.run_inside h.ready.sized.territory h.ready.formed h.ready.inside h.longer in
        tables_are (firsts_stay f)
        (c ∙ where_same (in_range? from to) (open_in? t p T) _ T.long
        (λ i r.
        let q : i / block_size ≡ segment_at T b = omega (arith, run.low, run.high) in
        record {
          block = b;
          meets = spans.by_run h.ready.sized.territory h.ready.formed h.ready.inside h.longer b (i % block_size) at
              (omega (arith, run.low))
              (omega (arith, run.low, run.high));
          owner = rw q owns.owner;
          points = rw q owns.points;
        })
        (λ i o. let q = in_segment i o in omega (arith, run.low, run.high)))
        refl

    pub run_repainted : (f : ℕ → ℕ → ℕ) {long : List ℕ} {r : ℕ} → RunChanged (λ i. f (cell_address t T i)) from to T.long long r
        → left r (tables_of T.first long T.owners) ≡ leaves (repainted t p f) T
    run_repainted f c = left_is (repainted t p f) T (run_tables f c.is) (omega (arith, c.count, differing-refl T.first))
