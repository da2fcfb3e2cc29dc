-- The walk along blocks: where their addresses end, and what one turn shows. Assumes nothing.
use mathlib.Core.Path.{◌≡◌, sym, ap, subst, ◌∙◌}
use mathlib.Core.Bool.{Bool, false, true≢false}
use mathlib.Core.List.{List}
use Prim.Native.Nat.{ℕ, ◌+◌, ◌-◌, ◌*◌, ◌^◌, ◌≤◌, ◌<◌}
use native.Mathlib.Omega.{arith}
use lib.ListN.{length, get_or}
use Rattle.ground.proofs.Tests.{stops}
use Rattle.ground.proofs.Cases.{by_lt}
use Rattle.prefix.specs.declared.Prefix.{Prefix}
use Rattle.prefix.specs.Prefixes.{WellFormed, Encloses}
use Rattle.prefix.specs.Price.{is_open}
use Rattle.prefix.specs.Geometry.{width, block_size, block_start, touched}
use Rattle.prefix.proofs.Prefixes.{ends_within}
use Rattle.prefix.proofs.Blocks.{opened?}
use Rattle.prefix.proofs.Spans.{aligned, span-blocks, block_lent, blocks_inside}
use Rattle.cells.specs.Cells.{pointer_bit}
use Rattle.cells.specs.Memory.{Tables, Sized}
use Rattle.rules.specs.Rules.{routes}
use Rattle.rules.specs.inner.Places.{Listed}
use Rattle.rules.specs.inner.Blocks.{CursorAt, StretchIs, PassedIs}
use Rattle.damage.specs.inner.Walk.{BlocksLent}
use Rattle.damage.proofs.Soundness.{Clean, CleanRun, clean_below, SoundBy, BlockSound, SoundTo}
use Rattle.rules.proofs.Cursor.{cursor_between, open_between}

-- a block that has a cell starts at an address
pub start_within : {t : Prefix} {tables : Tables} → Sized t tables → t.address < 2 ^ 32 → (k : ℕ) → k < length tables.first → block_start t k < 2 ^ 32
start_within s h k l = omega (arith, ends_within s.territory.formed h, span-blocks s.territory, s.firsts)

-- the blocks that a prefix of the territory touches have cells
pub touched-lent : {t p : Prefix} {tables : Tables} → Sized t tables → WellFormed p → Encloses t p → BlocksLent (touched t p) tables
touched-lent s w e = record {
  first = omega (arith, block_lent s.territory w e, s.firsts);
  all = omega (arith, blocks_inside s.territory w e, s.firsts);
}

-- the blocks from `from` to before `block` are sound, and the cursor stands at the start of `block`
pub record Walked (t : Prefix) (tables : Tables) (ws : List ℕ) (n from block at : ℕ) : Type 0 where
  pub forward : from ≤ block
  pub cursor : CursorAt ws n (block_start t block) at
  pub sound : SoundTo t (routes ws) tables from block

-- the next k blocks are before the next rule's
module _ {t : Prefix} {tables : Tables} {ws : List ℕ} {n from block at left k : ℕ} (z : Sized t tables) (s : Listed ws n)
    (w : Walked t tables ws n from block at) {start : ℕ} (e : start ≡ block_start t block) (h : StretchIs ws n at start left k) where
  -- they are closed
  shut : (j : ℕ) → block ≤ j → j < block + k → is_open (routes ws) (block_start t j) ≡ false
  shut j l m =
      let stands : (a : ℕ) → block_start t block ≤ a → a ≤ start + block_size * k → CursorAt ws n a at =
      λ a low high. cursor_between ws n (block_start t block) a (start + block_size * k) at low high w.cursor h.cursor in
      stops (opened? width (routes ws) (block_start t j)) (λ o.
      let i = (open_between ws n (block_start t j) at at s (omega (arith, aligned z.territory))
      (stands (block_start t j) (omega arith) (omega arith)) (stands (block_start t j + block_size) (omega arith) (omega arith))).0 o in
      omega (arith, i.1, i.2))

  -- so they are sound exactly if their cells are clean
  pub clean_run_lem : SoundTo t (routes ws) tables block (block + k) → CleanRun width tables.first block k
  clean_run_lem all i l =
      let b = all (block + i) (omega arith) (omega arith) in
      by_lt (get_or tables.first (block + i) 0) pointer_bit (λ other. (b.other other).0) (λ pointer.
      absurd (true≢false (sym (b.pointer pointer).1 ∙ shut (block + i) (omega arith) (omega arith))))

  pub sound_run_lem : CleanRun width tables.first block k → SoundTo t (routes ws) tables from (block + k)
  sound_run_lem clean j l m =
      by_lt j block (w.sound j l) (λ past.
      let i : block + (j - block) ≡ j = omega arith in
      let c : Clean width (get_or tables.first j 0) = subst (λ (x : ℕ). Clean width (get_or tables.first x 0)) i (clean (j - block) (omega arith)) in
      record { pointer = λ p. absurd (omega (arith, clean_below c)); other = λ o. (c, shut j past m) })

  -- of the block after them the rules say whether it is open
  module _ {stop next : ℕ} {opened : Bool} (f : stop ≡ block_start t (block + k)) (p : PassedIs ws n stop next opened) where
    opened_is : opened ≡ is_open (routes ws) (block_start t (block + k))
    opened_is = p.opened ∙ ap (is_open (routes ws)) f

    pub sound_here : BlockSound t (routes ws) tables (block + k) → SoundBy tables (block + k) opened
    sound_here b = subst (SoundBy tables (block + k)) (sym opened_is) b

    -- and the walk goes on with the block after that one
    pub walked_on : {on : ℕ} → on ≡ block + k + 1 → CleanRun width tables.first block k → SoundBy tables (block + k) opened
        → Walked t tables ws n from on next
    walked_on q clean b = record {
      forward = omega (arith, w.forward);
      cursor = subst (λ (a : ℕ). CursorAt ws n a next) (omega arith) p.cursor;
      sound = λ j l m. by_lt j (block + k) (sound_run_lem clean j l) (λ past.
          subst (BlockSound t (routes ws) tables) (omega arith) (subst (SoundBy tables (block + k)) opened_is b));
    }
