-- Sound segments and blocks, as the statements that the tests of damage decide: what the crates above know of memory that refusal 4 let
-- pass. Assumes nothing.
use mathlib.Core.Path.{◌≡◌, refl, sym, ap, subst, ◌∙◌}
use mathlib.Core.Logic.{◌⊎◌, inl, inr}
use mathlib.Core.Bool.{Bool, true, false, cond, not, ◌&&◌, true≢false, false≢true}
use mathlib.Core.List.{List}
use Prim.Native.Nat.{ℕ, ◌+◌, ◌-◌, ◌*◌, ◌≤◌, ◌<◌}
use native.Mathlib.Nat.{lt_of_not-le}
use native.Mathlib.Numerals.{add-one}
use native.Mathlib.Omega.{arith}
use lib.ListN.{length, get_or, take, drop, length-drop}
use lib.Seq.{length-take-le, get_or-take, get_or-drop}
use Rattle.ground.specs.Lists.{every_below}
use Rattle.ground.proofs.Tests.{Decides, holds, fails, leb?, ltb?, eqb?, and?, or?, iff?}
use Rattle.ground.proofs.Lists.{every_below?}
use Rattle.prefix.specs.declared.Prefix.{Prefix}
use Rattle.prefix.specs.declared.geometry.Blocks.{Blocks}
use Rattle.prefix.specs.Price.{is_open}
use Rattle.prefix.specs.Geometry.{width, block_size, block_start, blocks, block_of, touched}
use Rattle.prefix.specs.declared.Route.{Route}
use Rattle.cells.specs.Cells.{empty, pointer_bit, segment_of}
use Rattle.cells.proofs.Direct.{Direct, is_direct?}
use Rattle.rules.specs.Rules.{routes, Formed}
use Rattle.rules.proofs.FormTests.{formed?}
use Rattle.cells.specs.Memory.{Tables, Lent}
use Rattle.damage.specs.Damage.{is_clean, segment_sound, sound_by, block_sound, blocks_sound, undamaged}
use Rattle.damage.specs.inner.Walk.{clean_run, sound_run}

-- ---- cells

-- the cell is 0 or direct
abbrev pub Clean : ℕ → ℕ → Type 0
Clean longest cell = (cell ≡ empty) ⊎ Direct longest cell

pub is_clean? : (longest cell : ℕ) → Decides (Clean longest cell) (is_clean longest cell)
is_clean? longest cell = or? (eqb? cell empty) (is_direct? longest cell)

-- a clean cell is no pointer
pub clean_below : {longest cell : ℕ} → Clean longest cell → cell < pointer_bit
clean_below (inl e) = omega arith
clean_below (inr d) = omega (arith, d.hop_fits)

-- a run of clean cells
abbrev pub CleanRun : ℕ → List ℕ → ℕ → ℕ → Type 0
CleanRun longest cells from count = (i : ℕ) → i < count → Clean longest (get_or cells (from + i) 0)

pub clean_run? : (longest : ℕ) (cells : List ℕ) (from count : ℕ) → Decides (CleanRun longest cells from count) (clean_run longest cells from count)
unfolding clean_run
clean_run? longest cells from count = every_below? count _ (λ i. is_clean? longest (get_or cells (from + i) 0))

-- a run, as the test of each of the cells of a part
module _ (longest : ℕ) (cells : List ℕ) (from count : ℕ) {end : ℕ} (e : end ≡ from + count) (h : end ≤ length cells) where
  abbrev part : List ℕ
  part = take (end - from) (drop from cells)

  part_length : length part ≡ count
  part_length =
      let n : end - from ≡ count = omega arith in
      length-take-le (end - from) (drop from cells) (omega (arith, length-drop from cells)) ∙ n

  part_cell : (i : ℕ) → i < count → get_or part (0 + i) 0 ≡ get_or cells (from + i) 0
  part_cell i l =
      let same : 0 + i ≡ i = omega arith in
      ap (λ (j : ℕ). get_or part j 0) same ∙ get_or-take (end - from) (drop from cells) i 0 (omega arith) ∙ get_or-drop from cells i 0

  pub clean_part? : Decides (CleanRun longest cells from count) (clean_run longest part 0 (length part))
  clean_part? =
      iff? (clean_run? longest part 0 (length part))
      (λ run i l. subst (Clean longest) (part_cell i l) (run i (omega (arith, part_length))))
      (λ run i l. let small : i < count = omega (arith, part_length) in subst (Clean longest) (sym (part_cell i small)) (run i small))

-- one cell more
pub clean_more : (longest : ℕ) (cells : List ℕ) (from i : ℕ)
    → clean_run longest cells from (i + 1) ≡ clean_run longest cells from i && is_clean longest (get_or cells (from + i) 0)
unfolding clean_run every_below
clean_more longest cells from i = rw add-one

-- ---- segments

pub record SegmentSound (tables : Tables) (block s : ℕ) : Type 0 where
  pub lent : s < length tables.owners
  pub owned : get_or tables.owners s 0 ≡ block + 1
  pub clean : CleanRun 32 tables.long (s * block_size) block_size

pub segment_sound? : (tables : Tables) (block s : ℕ) → Decides (SegmentSound tables block s) (segment_sound tables block s)
unfolding segment_sound clean_run
segment_sound? tables block s =
    iff? (and? (and? (ltb? s _) (eqb? (get_or tables.owners s 0) _)) (clean_run? 32 tables.long (s * block_size) block_size))
    (λ h. record { lent = h.0.0; owned = h.0.1; clean = h.1 })
    (λ s. ((s.lent, s.owned), s.clean))

-- ---- blocks

-- of a block whose cell is a pointer the segment is sound and the block is open; of any other the cell is clean and the block is closed
pub record SoundBy (tables : Tables) (block : ℕ) (open_now : Bool) : Type 0 where
  pub pointer : pointer_bit ≤ get_or tables.first block 0 → SegmentSound tables block (segment_of (get_or tables.first block 0)) × (open_now ≡ true)
  pub other : get_or tables.first block 0 < pointer_bit → Clean width (get_or tables.first block 0) × (open_now ≡ false)

abbrev pub BlockSound : Prefix → List Route → Tables → ℕ → Type 0
BlockSound t rs tables block = SoundBy tables block (is_open rs (block_start t block))

pub true? : (b : Bool) → Decides (b ≡ true) b
true? true = holds refl
true? false = fails false≢true

false? : (b : Bool) → Decides (b ≡ false) (not b)
false? true = fails true≢false
false? false = holds refl

pub sound_by? : (tables : Tables) (block : ℕ) (open_now : Bool) → Decides (SoundBy tables block open_now) (sound_by tables block open_now)
unfolding sound_by
sound_by? tables block open_now =
    iff?
    (go (leb? pointer_bit cell) (and? (segment_sound? tables block (segment_of cell)) (true? open_now)) (and? (is_clean? width cell) (false? open_now)))
    (λ h. record { pointer = h.0; other = λ l. h.1 (λ p. omega arith) })
    (λ b. (b.pointer, λ n. b.other (lt_of_not-le n)))
  where
    cell : ℕ
    cell = get_or tables.first block 0

    go : {P Q R : Type 0} {x y z : Bool} → Decides P x → Decides Q y → Decides R z → Decides ((P → Q) × ((P → ⊥) → R)) (cond x y z)
    go (holds p) (holds q) d = holds (λ _. q, λ n. absurd (n p))
    go (holds p) (fails f) d = fails (λ h. f (h.0 p))
    go (fails n) d (holds r) = holds (λ p. absurd (n p), λ _. r)
    go (fails n) d (fails f) = fails (λ h. f (h.1 n))

pub block_sound? : (t : Prefix) (rs : List Route) (tables : Tables) (block : ℕ) → Decides (BlockSound t rs tables block) (block_sound t rs tables block)
unfolding block_sound
block_sound? t rs tables block = sound_by? tables block (is_open rs (block_start t block))

-- each of the blocks from `from` to before `end` is sound
abbrev pub SoundTo : Prefix → List Route → Tables → ℕ → ℕ → Type 0
SoundTo t rs tables from end = (k : ℕ) → from ≤ k → k < end → BlockSound t rs tables k

pub sound_run? : (t : Prefix) (bs : Blocks) (rs : List Route) (tables : Tables)
    → Decides (SoundTo t rs tables bs.from (bs.from + bs.count)) (sound_run t bs rs tables)
unfolding sound_run
sound_run? t bs rs tables =
    iff? (every_below? bs.count _ (λ i. block_sound? t rs tables (bs.from + i)))
    (λ h k l m. subst (BlockSound t rs tables) (omega arith) (h (k - bs.from) (omega arith)))
    (λ h i l. h (bs.from + i) (omega arith) (omega arith))

-- ---- no damage

-- what refusal 4 lets pass: the rule words have their order and form, and each block that p touches is sound
pub record Undamaged (t p : Prefix) (m : Lent) : Type 0 where
  pub rules : Formed t m.rules
  pub blocks : SoundTo t (routes m.rules) m.tables (block_of t p.address) (block_of t p.address + blocks p)

pub undamaged? : (t p : Prefix) (m : Lent) → Decides (Undamaged t p m) (undamaged t p m)
unfolding undamaged blocks_sound sound_run
undamaged? t p m =
    iff? (and? (formed? t m.rules) (sound_run? t (touched t p) (routes m.rules) m.tables))
    (λ h. record { rules = h.0; blocks = h.1 })
    (λ u. (u.rules, u.blocks))
