-- Which prefix needs a segment, and which segment is free: the first word that is 0, of which there is none exactly if the first is past
-- the end. Assumes nothing.
use mathlib.Core.Path.{◌≡◌, refl, ap, ◌∙◌}
use mathlib.Core.Bool.{Bool, true, false, cond, not, ◌&&◌, true≢false}
use mathlib.Core.List.{List, [], ◌∷◌}
use Prim.Native.Nat.{ℕ, zero, suc, ◌+◌, ◌≤◌, ◌<◌}
use native.Mathlib.Nat.{lt_of_not-le}
use native.Mathlib.Omega.{arith}
use lib.Dec.{ltb, eqb}
use lib.ListN.{length, get_or}
use borrow.Author.Tests.{eqb-true}
use Rattle.std.proofs.Common.{None, Some}
use Rattle.std.specs.List.{position, position_or_len}
use Rattle.ground.proofs.Tests.{Decides, holds, fails, leb?, ltb?, eqb?, and?, not?, iff?, cond_on, cond_off, says}
use Rattle.prefix.specs.declared.Prefix.{Prefix}
use Rattle.prefix.specs.Geometry.{width, block_of}
use Rattle.cells.specs.Cells.{pointer_bit}
use Rattle.cells.specs.Memory.{Tables, no_zero, lowest_free, needs_segment}

-- the prefix is longer than 24 and its block's first cell is no pointer
pub needs_segment? : (t p : Prefix) (tables : Tables)
    → Decides ((width < p.length) × (get_or tables.first (block_of t p.address) 0 < pointer_bit)) (needs_segment t p tables)
unfolding needs_segment
needs_segment? t p tables =
    iff? (and? (ltb? width p.length) (not? (leb? pointer_bit (get_or tables.first (block_of t p.address) 0))))
    (λ h. (h.0, lt_of_not-le h.1))
    (λ h. (h.0, λ l. omega (arith, h.1)))

-- the first word that is 0 is known by the words before it and by itself
pub lowest_is : (ws : List ℕ) (n : ℕ) → n ≤ length ws → ((i : ℕ) → i < n → get_or ws i 0 ≡ 0 → ⊥) → get_or ws n 0 ≡ 0 → lowest_free ws ≡ n
unfolding lowest_free
lowest_is [] n h some zeros = omega arith
lowest_is (w ∷ ws) zero h some zeros = cond_on 0 (suc (lowest_free ws)) (eqb? w 0) zeros
lowest_is (w ∷ ws) (suc n) h some zeros =
    cond_off 0 (suc (lowest_free ws)) (eqb? w 0) (some 0 (omega arith))
    ∙ ap suc (lowest_is ws n (omega arith) (λ i l. some (suc i) (omega arith)) zeros)

-- where a word is 0, the first is among them, and is 0
pub lowest_free_lem : (ws : List ℕ) → no_zero ws ≡ false → (lowest_free ws < length ws) × (get_or ws (lowest_free ws) 0 ≡ 0)
unfolding no_zero lowest_free
lowest_free_lem [] e = absurd (true≢false e)
lowest_free_lem (w ∷ ws) e = go (eqb w 0) refl e (lowest_free_lem ws)
  where
    go : (t : Bool) → eqb w 0 ≡ t → not t && no_zero ws ≡ false → (no_zero ws ≡ false → (lowest_free ws < length ws) × (get_or ws (lowest_free ws) 0 ≡ 0))
        → (cond t 0 (suc (lowest_free ws)) < suc (length ws)) × (get_or (w ∷ ws) (cond t 0 (suc (lowest_free ws))) 0 ≡ 0)
    go true q e ih = (omega arith, eqb-true w 0 q)
    go false q e ih = let h = ih e in (omega (arith, h.0), h.1)

-- no word is 0 exactly if there is no first
pub no_zero? : (ws : List ℕ) → Decides (lowest_free ws ≡ length ws) (no_zero ws)
unfolding no_zero lowest_free
no_zero? [] = holds refl
no_zero? (w ∷ ws) = go (eqb w 0) (no_zero? ws)
  where
    go : (t : Bool) {u : Bool} → Decides (lowest_free ws ≡ length ws) u → Decides (cond t 0 (suc (lowest_free ws)) ≡ suc (length ws)) (not t && u)
    go true d = fails (λ e. omega arith)
    go false d = iff? d (λ e. omega arith) (λ e. omega arith)

-- the library's first index at which a word is 0
lowest_position : (ws : List ℕ) → position_or_len (λ w. eqb w 0) ws ≡ lowest_free ws
unfolding lowest_free
lowest_position [] = refl
lowest_position (w ∷ ws) = go (eqb w 0) (lowest_position ws)
  where
    go : (t : Bool) → position_or_len (λ w. eqb w 0) ws ≡ lowest_free ws
        → cond (not t) (1 + position_or_len (λ w. eqb w 0) ws) 0 ≡ cond t 0 (suc (lowest_free ws))
    go true ih = refl
    go false ih = omega arith

-- so it is the lowest free segment, where one is free
pub position_free : (ws : List ℕ) → position (λ w. eqb w 0) ws ≡ cond (no_zero ws) None (Some (lowest_free ws))
position_free ws = rw (lowest_position ws) (go (no_zero ws) refl)
  where
    go : (t : Bool) → no_zero ws ≡ t
        → cond (ltb (lowest_free ws) (length ws)) (Some (lowest_free ws)) None ≡ cond t None (Some (lowest_free ws))
    go true e = cond_off (Some (lowest_free ws)) None (ltb? (lowest_free ws) (length ws)) (λ h. omega (arith, says (no_zero? ws) e))
    go false e = cond_on (Some (lowest_free ws)) None (ltb? (lowest_free ws) (length ws)) (lowest_free_lem ws e).0
