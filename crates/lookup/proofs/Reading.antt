-- Where a call may read: what is lent, the territory, and the block of an address in it. Assumes nothing.
use mathlib.Core.Path.{◌≡◌, refl, sym, ap, ap₂, ◌∙◌}
use mathlib.Core.Bool.{Bool, true, false, cond}
use mathlib.Core.List.{List, map}
use Rattle.std.proofs.lemmas.List.{length-map, get_or-map}
use Prim.Native.Nat.{ℕ, ◌*◌, ◌%◌, ◌^◌, ◌≤◌, ◌<◌}
use native.Mathlib.Omega.{arith}
use lib.Dec.{ltb}
use lib.ListN.{length, get_or}
use Rattle.ground.proofs.Tests.{Decides, holds, fails, leb?, eqb?, and?, iff?, cond_on, says, same_test}
use Rattle.cells.proofs.Lending.{LentToRead, lent_to_read?}
use Rattle.prefix.specs.declared.Prefix.{Prefix}
use Rattle.prefix.specs.Prefixes.{contains, Contains}
use Rattle.prefix.specs.Geometry.{Territory, block_size, is_territory, blocks, block_of, block_from}
use Rattle.prefix.proofs.Prefixes.{contains?, in_range_lem}
use Rattle.prefix.proofs.Spans.{is_territory?, block_inside}
use Rattle.prefix.proofs.Inside.{inside?}
use Rattle.cells.specs.Memory.{most_segments, lent_to_read}
use Rattle.lookup.specs.Lookup.{refused, says_of, look_up}
use Rattle.ground.specs.declared.refusal.Refusal.{Refusal}
use Rattle.ground.specs.Refusals.{number as refusal_number}
use Rattle.ground.proofs.Refusals.{number_some}
use Rattle.lookup.specs.inner.Standing.{lent_by, standing_by, standing_of}

-- a call may read: what is lent is right, and the address is in the territory
pub record Stands (first long : ℕ) (t : Prefix) (a : ℕ) : Type 0 where
  pub lent : LentToRead first long t
  pub inside : Contains t a

module _ {first long : ℕ} {t : Prefix} {a : ℕ} (s : Stands first long t a) where
  past_base : t.address ≤ a
  past_base = (in_range_lem s.lent.territory.formed s.inside).0

  -- the first table has a cell for the block of the address
  block_lent : block_of t a < first
  block_lent = omega (arith, block_inside s.lent.territory s.inside, s.lent.a_cell_a_block)

-- the block counted from the base on tells whether the address is inside
pub inside_test : (t : Prefix) (a : ℕ) → is_territory t ≡ true → t.address < 2 ^ 32 → a < 2 ^ 32 → contains t a ≡ ltb (block_from t.address a) (blocks t)
inside_test t a h fits small = same_test (contains? t a) (inside? (says (is_territory? t) h) fits small (blocks t) refl)

-- the number of the refusal, by the two tests
abbrev pub number : Bool → Bool → ℕ
number lent inside = cond lent (cond inside 0 3) 1

-- what `lent_by` decides
pub record LentBy (unit first long : ℕ) (t : Prefix) : Type 0 where
  pub territory : Territory t
  pub parts_a_block : first ≡ unit * blocks t
  pub whole_segments : long % (unit * block_size) ≡ 0
  pub not_too_many : long ≤ unit * (block_size * most_segments)

pub lent_by? : (unit first long : ℕ) (t : Prefix) → Decides (LentBy unit first long t) (lent_by unit first long t)
unfolding lent_by
lent_by? unit first long t =
    iff?
    (and? (and? (and? (is_territory? t) (eqb? first (unit * blocks t))) (eqb? (long % (unit * block_size)) 0)) (leb? long (unit * (block_size * most_segments))))
    (λ h. record { territory = h.0.0.0; parts_a_block = h.0.0.1; whole_segments = h.0.1; not_too_many = h.1 })
    (λ l. (((l.territory, l.parts_a_block), l.whole_segments), l.not_too_many))

-- counted in cells, this is what is lent to read
pub in_cells : (first long : ℕ) (t : Prefix) (a : ℕ) → standing_by 1 first long t a ≡ standing_of first long t a
unfolding standing_by standing_of
in_cells first long t a =
    ap (λ (x : Bool). number x (contains t a))
    (same_test
    (iff? (lent_by? 1 first long t)
    (λ l. record {
      territory = l.territory;
      a_cell_a_block = omega (arith, l.parts_a_block);
      whole_segments = omega (arith, l.whole_segments);
      not_too_many = omega (arith, l.not_too_many);
    })
    (λ l. record {
      territory = l.territory;
      parts_a_block = omega (arith, l.a_cell_a_block);
      whole_segments = omega (arith, l.whole_segments);
      not_too_many = omega (arith, l.not_too_many);
    }))
    (lent_to_read? first long t))

pub stands : {first long : ℕ} {t : Prefix} {a : ℕ} → standing_of first long t a ≡ 0 → Stands first long t a
unfolding standing_of
stands {first} {long} {t} {a} z = go (lent_to_read? first long t) (contains? t a) z
  where
    go : {x y : Bool} → Decides (LentToRead first long t) x → Decides (Contains t a) y → number x y ≡ 0 → Stands first long t a
    go (holds l) (holds c) e = record { lent = l; inside = c }
    go (holds l) (fails n) e = absurd (omega arith)
    go (fails n) d e = absurd (omega arith)

-- so where nothing is refused, the block of the address is there
pub reads_past : (first long : ℕ) (t : Prefix) (a : ℕ) → standing_of first long t a ≡ 0 → t.address ≤ a
reads_past first long t a z = past_base (stands z)

pub reads_block : (first long : ℕ) (t : Prefix) (a : ℕ) → standing_of first long t a ≡ 0 → block_of t a < first
reads_block first long t a z = block_lent (stands z)

-- an answer that is x where the call may read, and is made of the refusal's number where it may not
module _ {A : Type 0} (f : ℕ → A) (first long : ℕ) (t : Prefix) (a : ℕ) (x : A) where
  pub goes_on_lem : Stands first long t a → x ≡ cond (lent_to_read first long t) (cond (contains t a) x (f 3)) (f 1)
  goes_on_lem s = sym (cond_on _ _ (lent_to_read? first long t) s.lent ∙ cond_on _ _ (contains? t a) s.inside)

  pub stops_at : (code : ℕ) → code ≡ standing_of first long t a → (code ≡ 0 → ⊥)
      → f code ≡ cond (lent_to_read first long t) (cond (contains t a) x (f 3)) (f 1)
  unfolding standing_of
  stops_at code m n = ap f m ∙ go (lent_to_read first long t) (contains t a) (λ z. n (m ∙ z))
    where
      go : (y z : Bool) → (number y z ≡ 0 → ⊥) → f (number y z) ≡ cond y (cond z x (f 3)) (f 1)
      go true true m = absurd (m refl)
      go true false m = refl
      go false z m = refl

-- look up on tables of words, however those are lent, where nothing is refused
module _ {W : Type 0} (word : W → ℕ) (first long : List W) (t : Prefix) (a : ℕ) where
  lent : standing_of (length (map word first)) (length (map word long)) t a ≡ standing_of (length first) (length long) t a
  lent = ap₂ (λ (f l : ℕ). standing_of f l t a) (length-map first word) (length-map long word)

  pub reads : (d : W) → standing_of (length first) (length long) t a ≡ 0
      → look_up (map word first) (map word long) t a ≡ says_of (map word long) (a % block_size) (word (get_or first (block_of t a) d))
  unfolding look_up
  reads d z =
      sym (goes_on_lem refused _ _ _ _ _ (stands (lent ∙ z)))
      ∙ ap (says_of (map word long) (a % block_size)) (get_or-map word first (block_of t a) d 0 (block_lent (stands z)))

  -- and where something is
  pub refuses : (r : Refusal) → refusal_number r ≡ standing_of (length first) (length long) t a
      → look_up (map word first) (map word long) t a ≡ refused (refusal_number r)
  unfolding look_up
  refuses r e = sym (stops_at refused _ _ _ _ _ _ (e ∙ sym lent) (λ z. let n = number_some r in cc))
