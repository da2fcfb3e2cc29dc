-- The cursor among the live rules: where it stands at an address, how far no rule starts, and whether a block is open by the rules that
-- were passed. Assumes nothing.
use mathlib.Core.Path.{◌≡◌, refl, sym, ap, subst, ◌∙◌}
use mathlib.Core.Logic.{◌↔◌, ◌⊎◌, inl, inr}
use mathlib.Core.Bool.{Bool, false, ◌||◌}
use mathlib.Core.List.{List}
use Prim.Native.Nat.{ℕ, ◌+◌, ◌*◌, ◌/◌, ◌%◌, ◌≤◌, ◌<◌}
use native.Mathlib.Omega.{arith}
use lib.Dec.{ltb}
use lib.ListN.{get_or}
use borrow.Author.Count.{below_more}
use Rattle.ground.proofs.Tests.{Decides, fails, ltb?, or?, iff?, same_test}
use Rattle.ground.proofs.Cases.{by_lt}
use Rattle.prefix.specs.Prefixes.{top}
use Rattle.prefix.specs.Geometry.{width, block_size}
use Rattle.prefix.specs.declared.Route.{Route}
use Rattle.prefix.proofs.Blocks.{Opened, opened?}
use Rattle.rules.specs.Words.{route_of, key_of}
use Rattle.rules.specs.Rules.{routes}
use Rattle.rules.specs.inner.Places.{Listed, prefix_at, PositionIs}
use Rattle.rules.specs.inner.Blocks.{CursorAt, StretchIs, PassedIs}
use Rattle.rules.proofs.Words.{key_from}
use Rattle.rules.proofs.Indices.{routes_index, index_routes, listed_short, keys_rise}

-- ---- where it stands

-- at the place of the shortest prefix of the address
pub cursor_from : {ws : List ℕ} {n k at : ℕ} (a : ℕ) → Listed ws n → k ≡ key_of (record { address = a; length = 0 }) → PositionIs ws n k at
    → CursorAt ws n a at
cursor_from {ws} {n} a s e q = record {
  within = q.within;
  below = λ i l. (from i (omega (arith, q.within))).0 (omega (arith, q.below i l));
  above = λ i l m. by_lt (prefix_at ws i).address a (λ h. absurd (omega (arith, q.above i l m, (from i m).1 h))) (λ h. h);
}
  where
    from : (i : ℕ) → i < n → (key_of (prefix_at ws i) < key_of (record { address = a; length = 0 })) ↔ ((prefix_at ws i).address < a)
    from i l = key_from a (prefix_at ws i) (listed_short s i l)

-- it stands where it stood while no rule's address is passed
pub cursor_between : (ws : List ℕ) (n a b c at : ℕ) → a ≤ b → b ≤ c → CursorAt ws n a at → CursorAt ws n c at → CursorAt ws n b at
cursor_between ws n a b c at h k p q = record {
  within = p.within;
  below = λ i l. omega (arith, p.below i l);
  above = λ i l m. omega (arith, q.above i l m);
}

-- it stands at i where every rule before i has an address below b, and the rule at i has not
cursor_by : {ws : List ℕ} {n b i : ℕ} → Listed ws n → i ≤ n → ((k : ℕ) → k < i → (prefix_at ws k).address < b) → (i < n → b ≤ (prefix_at ws i).address) → CursorAt ws n b i
cursor_by {i = i} s h below e = record {
  within = h;
  below = below;
  above = λ k l m. omega (arith, e (omega arith), keys_rise s i k l m, listed_short s i (omega arith), listed_short s k m);
}

-- up to k blocks on, where the rule at the cursor has its address past them
pub stretch_to : {ws : List ℕ} {n at a left : ℕ} (k : ℕ) → Listed ws n → CursorAt ws n a at → k ≤ left
    → (at < n → a + block_size * k ≤ (prefix_at ws at).address) → StretchIs ws n at a left k
stretch_to k s p h e = record { within = h; cursor = cursor_by s p.within (λ i l. omega (arith, p.below i l)) e }

-- ---- open blocks

-- a rule longer than 24 stands from `at` to before `next`
abbrev pub LongIn : List ℕ → ℕ → ℕ → Type 0
LongIn ws at next = (i : ℕ) × (at ≤ i) × (i < next) × (width < (prefix_at ws i).length)

-- The rules whose address lies in a block stand between the cursor at its start and the cursor at its end, so the block is open
-- exactly if one of them is longer than 24.
pub open_between : (ws : List ℕ) (n a at next : ℕ) → Listed ws n → a % block_size ≡ 0 → CursorAt ws n a at → CursorAt ws n (a + block_size) next
    → Opened width (routes ws) a ↔ LongIn ws at next
unfolding top
open_between ws n a at next s z p q = (to, from)
  where
    to : Opened width (routes ws) a → LongIn ws at next
    to o =
        let i = routes_index ws o.1 in
        let l : i.0 < n = omega (arith, i.1, s.count) in
        let inside : (prefix_at ws i.0).address / block_size ≡ a / block_size = ap (λ (r : Route). top width r.prefix.address) i.2 ∙ o.2.inside in (
          i.0,
          by_lt i.0 at (λ h. absurd (omega (arith, p.below i.0 h))) (λ h. h),
          by_lt i.0 next (λ h. h) (λ h. absurd (omega (arith, q.above i.0 h l))),
          subst (λ (r : Route). width < r.prefix.length) (sym i.2) o.2.long,
        )

    from : LongIn ws at next → Opened width (routes ws) a
    from i =
        let l : i.0 < n = omega (arith, i.2, q.within) in
        let low = p.above i.0 i.1 l in
        let high = q.below i.0 i.2 in
        (route_of (get_or ws i.0 0), index_routes ws i.0 (omega (arith, s.count)) refl, record { long = i.3; inside = omega arith })

-- ---- past the rules of a block

-- the cursor was at `at` where the block starts and is at i now, in the block or at its end; `long` says whether a rule longer than 24
-- was passed
pub record Passing (ws : List ℕ) (n a at i : ℕ) (opened : Bool) : Type 0 where
  pub from : at ≤ i
  pub within : i ≤ n
  pub below : (k : ℕ) → k < i → (prefix_at ws k).address < a + block_size
  pub long : Decides (LongIn ws at i) opened

pub passing_start : (ws : List ℕ) (n a at : ℕ) → CursorAt ws n a at → Passing ws n a at at false
passing_start ws n a at p = record {
  from = omega arith;
  within = p.within;
  below = λ k l. omega (arith, p.below k l);
  long = fails (λ i. omega (arith, i.1, i.2));
}

pub passing_more : (ws : List ℕ) (n a at i : ℕ) (opened : Bool) → Passing ws n a at i opened → i < n → (prefix_at ws i).address < a + block_size
    → Passing ws n a at (i + 1) (opened || ltb width (prefix_at ws i).length)
passing_more ws n a at i opened p l h = record {
  from = omega arith;
  within = omega arith;
  below = below_more (λ (k : ℕ). (prefix_at ws k).address < a + block_size) i p.below h;
  long = iff? (or? p.long (ltb? width (prefix_at ws i).length)) to from;
}
  where
    to : LongIn ws at i ⊎ (width < (prefix_at ws i).length) → LongIn ws at (i + 1)
    to (inl k) = (k.0, k.1, omega (arith, k.2), k.3)
    to (inr b) = (i, p.from, omega arith, b)

    from : LongIn ws at (i + 1) → LongIn ws at i ⊎ (width < (prefix_at ws i).length)
    from k =
        by_lt k.0 i (λ m. inl (k.0, k.1, m, k.3)) (λ m.
        inr (subst (λ (j : ℕ). width < (prefix_at ws j).length) (omega (arith, k.2)) k.3))

-- at the end of the block, or of the list
pub passing_met : (ws : List ℕ) (n a at i : ℕ) (opened : Bool) → Listed ws n → a % block_size ≡ 0 → CursorAt ws n a at
    → Passing ws n a at i opened → (i < n → a + block_size ≤ (prefix_at ws i).address) → PassedIs ws n a i opened
passing_met ws n a at i opened s z p q e = record {
  cursor = cursor;
  opened = let o = open_between ws n a at i s z p cursor in same_test q.long (iff? (opened? width (routes ws) a) o.0 o.1);
}
  where
    cursor : CursorAt ws n (a + block_size) i
    cursor = cursor_by s q.within q.below e
