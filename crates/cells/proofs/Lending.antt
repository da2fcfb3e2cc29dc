-- What the tests of the sizes of what is lent decide. Assumes nothing.
use mathlib.Core.Path.{◌≡◌}
use Prim.Native.Nat.{ℕ, ◌*◌, ◌%◌, ◌^◌, ◌≤◌}
use lib.ListN.{length}
use native.Mathlib.Omega.{arith}
use Rattle.ground.proofs.Tests.{Decides, leb?, eqb?, and?, iff?}
use Rattle.prefix.specs.declared.Prefix.{Prefix}
use Rattle.prefix.specs.Geometry.{width, block_size, Territory, blocks}
use Rattle.prefix.proofs.Spans.{is_territory?, few_blocks}
use Rattle.cells.specs.Memory.{Tables, Lent, most_segments, most_rules, lent_to_read, lent_to_update, is_lent, Sized, IsLent}

-- ---- to a call that reads

pub record LentToRead (first long : ℕ) (t : Prefix) : Type 0 where
  pub territory : Territory t
  pub a_cell_a_block : first ≡ blocks t
  pub whole_segments : long % block_size ≡ 0
  pub not_too_many : long ≤ block_size * most_segments

pub lent_to_read? : (first long : ℕ) (t : Prefix) → Decides (LentToRead first long t) (lent_to_read first long t)
unfolding lent_to_read
lent_to_read? first long t =
    iff? (and? (and? (and? (is_territory? t) (eqb? first (blocks t))) (eqb? (long % block_size) 0)) (leb? long (block_size * most_segments)))
    (λ h. record { territory = h.0.0.0; a_cell_a_block = h.0.0.1; whole_segments = h.0.1; not_too_many = h.1 })
    (λ l. (((l.territory, l.a_cell_a_block), l.whole_segments), l.not_too_many))

-- ---- to an update

pub record LentToUpdate (first long owners rules : ℕ) (t : Prefix) : Type 0 where
  pub territory : Territory t
  pub a_cell_a_block : first ≡ blocks t
  pub whole_segments : long ≡ block_size * owners
  pub few_segments : owners ≤ most_segments
  pub few_rules : rules ≤ most_rules

pub lent_to_update? : (first long owners rules : ℕ) (t : Prefix)
    → Decides (LentToUpdate first long owners rules t) (lent_to_update first long owners rules t)
unfolding lent_to_update
lent_to_update? first long owners rules t =
    iff?
    (and? (and? (and? (and? (is_territory? t) (eqb? first (blocks t))) (eqb? long (block_size * owners))) (leb? owners most_segments))
    (leb? rules most_rules))
    (λ h. record {
      territory = h.0.0.0.0;
      a_cell_a_block = h.0.0.0.1;
      whole_segments = h.0.0.1;
      few_segments = h.0.1;
      few_rules = h.1;
    })
    (λ l. ((((l.territory, l.a_cell_a_block), l.whole_segments), l.few_segments), l.few_rules))

pub is_lent? : (t : Prefix) (m : Lent) → Decides (IsLent t m) (is_lent t m)
is_lent? t m =
    let tables = m.tables in
    iff? (lent_to_update? (length tables.first) (length tables.long) (length tables.owners) (length m.rules) t)
    (λ l. record {
      sized = record { territory = l.territory; firsts = l.a_cell_a_block; longs = l.whole_segments; few = l.few_segments };
      few_rules = l.few_rules;
    })
    (λ l. record {
      territory = l.sized.territory;
      a_cell_a_block = l.sized.firsts;
      whole_segments = l.sized.longs;
      few_segments = l.sized.few;
      few_rules = l.few_rules;
    })

-- a first table of a territory has at most 2 ^ 24 cells
pub few_firsts : {t : Prefix} {tables : Tables} → Sized t tables → length tables.first ≤ 2 ^ width
few_firsts {t} s = omega (arith, s.firsts, few_blocks t)
