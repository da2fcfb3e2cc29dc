-- A segment opened: the tables are then ready for the prefix, whose block points to the segment, so that painting is that of one run of
-- cells. Assumes nothing.
use mathlib.Core.Path.{◌≡◌, sym, ap, ap₂, ◌∙◌}
use mathlib.Core.List.{List}
use Prim.Native.Nat.{ℕ, ◌+◌, ◌*◌, ◌<◌}
use native.Mathlib.Omega.{arith}
use lib.ListN.{length, get_or, set, length-set}
use lib.Seq.{get_or-set_same}
use Rattle.ground.proofs.Lists.{differs-other, differing_one}
use Rattle.prefix.specs.declared.Prefix.{Prefix}
use Rattle.prefix.specs.Geometry.{block_size, block_of}
use Rattle.prefix.proofs.Spans as spans
use Rattle.cells.specs.Cells.{pointer_bit, point_to, segment_of}
use Rattle.cells.specs.Memory.{Tables, tables_of}
use Rattle.tables.specs.Cellwise.{cell_address, repainted}
use Rattle.tables.specs.Changes.{opened_at, left, leaves}
use Rattle.tables.specs.inner.Ready.{Openable, Closable}
use Rattle.tables.specs.inner.Ranges.{InSegment, PrefixRun, RunChanged, two_values}
use Rattle.tables.proofs.Changes.{left_is}
use Rattle.tables.proofs.Filling.{length_filled, filled_then}
use Rattle.tables.proofs.Repaints.{run_tables}

module _ {t p : Prefix} {s : ℕ} {T : Tables} (h : Openable t p s T) {b : ℕ} (at_block : b ≡ block_of t p.address) where
  abbrev cell : ℕ
  cell = get_or T.first b 0

  pub block_in : b < length T.first
  block_in = omega (arith, spans.block_lent h.sized.territory h.formed h.inside, h.sized.firsts)

  points : get_or (set T.first b (point_to s)) b 0 ≡ point_to s
  points = get_or-set_same T.first b (point_to s) 0 block_in

  -- the opened tables can be closed again
  pub closable_opened : Closable t p (opened_at b s T)
  unfolding opened_at
  closable_opened = record {
    ready = record {
      sized = record {
        territory = h.sized.territory;
        firsts = length-set T.first b (point_to s) ∙ h.sized.firsts;
        longs = omega (arith, length_filled s cell T.long, length-set T.owners s (b + 1), h.sized.longs);
        few = omega (arith, length-set T.owners s (b + 1), h.sized.few);
      };
      formed = h.formed;
      inside = h.inside;
      owned = λ k low high pointer.
          let one : k ≡ b = omega (arith, spans.one_block p h.longer) in
          let number : segment_of (get_or (set T.first b (point_to s)) b 0) ≡ s = omega (arith, points) in
          rw one (record {
            points = omega (arith, points);
            lent = omega (arith, number, length-set T.owners s (b + 1), h.lent);
            owner = rw number (get_or-set_same T.owners s (b + 1) 0 h.lent);
          });
    };
    longer = h.longer;
    has_segment = rw (sym at_block) (omega (arith, points));
  }

  -- the prefix's run in the segment
  module _ {at from to : ℕ} (start : at ≡ s * block_size) (run : PrefixRun p s from to) where
    pub run_in_segment : InSegment at from to T.long
    run_in_segment =
        let i = spans.run_inside h.sized.territory h.formed h.inside h.longer in
        record {
          low = omega (arith, run.low);
          ordered = omega (arith, run.high);
          high = omega (arith, run.low, run.high);
          lent = omega (arith, h.lent, h.sized.longs);
          small = omega (arith, h.sized.longs, h.sized.few);
        }

    -- v is stored in the first table, o in the owner words, and the segment filled with the old first cell, and in the run with f of it
    pub opened_and_changed : (f : ℕ → ℕ → ℕ) {inside around v o r : ℕ} {long : List ℕ} → ((a : ℕ) → inside ≡ f a cell)
        → around ≡ cell → v ≡ point_to s → o ≡ b + 1 → RunChanged (λ i x. two_values from to inside around i) at (at + block_size) T.long long r
        → left (r + 1) (tables_of (set T.first b v) long (set T.owners s o)) ≡ leaves (λ x. repainted t p f (opened_at b s x)) T
    unfolding opened_at
    opened_and_changed f {inside} {around} {v} {o} {long = long} painted old ev eo c =
        let filled = filled_then s (λ i. f (cell_address t (opened_at b s T) i)) start run_in_segment.low run_in_segment.high
        (λ i. painted _ ∙ ap (f _) (sym old)) c in
        let stored = ap₂ (λ (x y : ℕ). tables_of (set T.first b x) long (set T.owners s y)) ev eo in
        let direct : cell < pointer_bit = rw at_block h.direct in
        let differs-there = differs-other cell v (λ e. omega arith) in
        left_is (λ x. repainted t p f (opened_at b s x)) T
        (stored ∙ run_tables closable_opened at_block (omega (arith, points)) run f (rw old at filled))
        (omega (arith, c.count, differing_one T.first b v block_in))
