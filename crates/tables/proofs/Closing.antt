-- A segment closed; and that what is repainted over the prefix before does not show, so that a withdrawal that closes need not repaint.
-- Assumes nothing.
use mathlib.Core.Path.{◌≡◌, refl, sym, ap, ◌∙◌}
use mathlib.Core.List.{List}
use Prim.Native.Nat.{ℕ, ◌+◌, ◌*◌, ◌/◌}
use native.Mathlib.Omega.{arith}
use lib.ListN.{length, get_or, set}
use Rattle.ground.specs.Lists.{differs}
use Rattle.ground.proofs.Tests.{eqb?}
use Rattle.ground.proofs.Lists.{is_where, get_or_off, length_where, differing_one}
use Rattle.prefix.specs.declared.Prefix.{Prefix}
use Rattle.prefix.specs.Geometry.{block_size, block_of}
use Rattle.cells.specs.Cells.{empty, segment_of}
use Rattle.cells.specs.Memory.{Tables, tables_of}
use Rattle.tables.specs.Cellwise.{repainted}
use Rattle.tables.specs.Changes.{segment_filled, closed_at, left, leaves}
use Rattle.tables.specs.inner.Ready.{segment_at, Closable}
use Rattle.tables.specs.inner.Ranges.{RunChanged}
use Rattle.tables.proofs.Changes.{tables_are, left_is}
use Rattle.tables.proofs.Segments.{open_in?}
use Rattle.tables.proofs.Filling.{filled_whole, length_filled, get_or_filled, get_or-other}
use Rattle.tables.proofs.Repaints.{block_lent, firsts_stay, in_segment}

module _ {t p : Prefix} {T : Tables} (h : Closable t p T) {b : ℕ} (at_block : b ≡ block_of t p.address) where
  abbrev s : ℕ
  s = segment_at T b

  -- u is the segment
  pub closed : (cell : ℕ) {u from to value word r d : ℕ} {long : List ℕ} → u ≡ s → from ≡ u * block_size → to ≡ from + block_size → value ≡ empty → word ≡ 0
      → RunChanged (λ i x. value) from to T.long long r → d ≡ differs (get_or T.first b 0) cell
      → left (r + d) (tables_of (set T.first b cell) long (set T.owners u word)) ≡ leaves (closed_at b s cell) T
  unfolding closed_at
  closed cell {u} {word = word} eu low high ev ew c ed =
      left_is (closed_at b s cell) T
      (tables_are refl (rw ev at (filled_whole s (omega arith) high c)) (ap (λ (i : ℕ). set T.owners i word) eu ∙ ap (set T.owners s) ew))
      (omega (arith, c.count, differing_one T.first b cell (block_lent h.ready at_block)))

  -- a repaint leaves the pointer, and changes no cell outside the block's segment, which is filled all over
  pub segment_stays : (f : ℕ → ℕ → ℕ) → segment_at (repainted t p f T) b ≡ s
  segment_stays f = ap (λ (l : List ℕ). segment_of (get_or l b 0)) (sym (firsts_stay h at_block f))

  same_longs : (f : ℕ → ℕ → ℕ) → length (repainted t p f T).long ≡ length T.long
  unfolding repainted
  same_longs f = length_where _ _ T.long

  pub closed_after : (f : ℕ → ℕ → ℕ) (cell : ℕ) → closed_at b s cell (repainted t p f T) ≡ closed_at b s cell T
  unfolding closed_at segment_filled repainted
  closed_after f cell =
      tables_are (ap (λ (l : List ℕ). set l b cell) (sym (firsts_stay h at_block f)))
      (is_where (λ i. eqb? (i / block_size) s) (λ i x. empty) T.long (segment_filled s empty (repainted t p f T).long)
      (length_filled s empty (repainted t p f T).long ∙ same_longs f)
      (λ i l q. get_or_filled s empty _ i (omega (arith, same_longs f)) q)
      (λ i l n. get_or-other s empty _ i n ∙ get_or_off _ _ T.long i (open_in? t p T i) (λ o. n (in_segment h at_block i o).0)))
      refl
