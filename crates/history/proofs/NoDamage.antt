-- No call of a history answers 4: the memory that a history leaves is not damaged for any prefix of the territory. Assumes nothing.
use mathlib.Core.Path.{◌≡◌, refl, sym, subst, ◌∙◌}
use mathlib.Core.Logic.{inl, inr}
use mathlib.Core.Bool.{Bool, true, false, cond, not, ◌&&◌}
use mathlib.Core.List.{List}
use Prim.Native.Nat.{ℕ, ◌+◌, ◌≤◌, ◌<◌}
use native.Mathlib.Omega.{arith}
use lib.ListN.{length, get_or}
use Rattle.ground.proofs.Tests.{passes, says}
use Rattle.refusals.proofs.Refusing.{named-formed}
use Rattle.updates.specs.Effects.{effect}
use Rattle.prefix.specs.declared.Prefix.{Prefix}
use Rattle.prefix.specs.Prefixes.{encloses, WellFormed, Encloses}
use Rattle.prefix.specs.Geometry.{blocks, block_start, width}
use Rattle.prefix.specs.declared.Route.{Route}
use Rattle.prefix.specs.Routes.{Match, no_route, via, best, Change, is_change, named}
use Rattle.prefix.proofs.Prefixes.{encloses?}
use Rattle.prefix.proofs.Blocks.{closed_short}
use Rattle.cells.specs.Cells.{segment_of, cell_of}
use Rattle.rules.specs.Rules.{routes, is_live, Formed}
use Rattle.rules.proofs.RouteWords.{words-formed}
use Rattle.cells.specs.Memory.{Lent, is_lent, IsLent, no_zero, needs_segment}
use Rattle.damage.specs.Damage.{undamaged}
use Rattle.refusals.specs.Codes.{tested, Call, announces, withdraws, re_homes, unless_live, unless_room, code, change, own}
use Rattle.prefix.proofs.Spans.{blocks_inside}
use Rattle.damage.proofs.Soundness.{Clean, SegmentSound, BlockSound, undamaged?}
use Rattle.updates.specs.Calls.{outcome, step}
use Rattle.updates.proofs.Outcomes.{by_outcome}
use Rattle.history.specs.History.{History, memory, report, live}
use Rattle.history.proofs.Holding.{closed_cell, open_pointer}
use Rattle.history.proofs.Matches.{Good, best_good}
use Rattle.history.proofs.Invariant.{Inv, live-routes, territory}
use Rattle.history.proofs.Histories.{inv_history}

-- the cell of a match is 0 or direct
clean_cell : (limit : ℕ) (m : Match) → Good m → ((h l : ℕ) → m ≡ via h l → l ≤ limit) → Clean limit (cell_of m)
clean_cell limit no_route g s = inl refl
clean_cell limit (via h l) g s =
    let k = s h l refl in
    inr (record { some_hop = omega arith; hop_fits = omega arith; length_fits = omega arith })

good_short : (m : Match) → Good m → (h l : ℕ) → m ≡ via h l → l ≤ 32
good_short m g h l e = let q = subst Good e g in q.2

module _ (t : Prefix) (rs : List Route) (m : Lent) (I : Inv t rs m) where
  good : (a : ℕ) → Good (best rs a)
  good a = best_good rs a I.list.all

  block_sound_lem : (k : ℕ) → k < blocks t → BlockSound t rs m.tables k
  block_sound_lem k l = record {
    pointer = λ p.
        let o = open_pointer I.tables l p in
        let S = I.tables.open_at k l o in
        let q = S.owns.points in
        let s : S.number ≡ segment_of (get_or m.tables.first k 0) = omega arith in (
          subst (SegmentSound m.tables k) s (record {
            lent = S.owns.lent;
            owned = S.owns.owner;
            clean = λ i j. subst (Clean 32) (sym (S.cells i j)) (clean_cell 32 (best rs (block_start t k + i)) (good _) (good_short _ (good _)));
          }),
          o,
        );
    other = λ d.
        let o = closed_cell I.tables l d in (
          subst (Clean width) (sym (I.tables.closed k l o)) (clean_cell width (best rs (block_start t k)) (good _)
              (λ h n e. closed_short width rs (block_start t k) h n I.list.all o e)),
          o,
        );
  }

  not_damaged : (p : Prefix) → WellFormed p → Encloses t p → undamaged t p m ≡ true
  not_damaged p w e =
      passes (undamaged? t p m) (record {
        rules = subst (Formed t) (sym I.words) (words-formed t (length m.rules) rs I.list.all I.list.order I.list.inside);
        blocks = λ k low high.
            subst (λ (x : List Route). BlockSound t x m.tables k) (sym (live-routes I))
            (block_sound_lem k (let l = blocks_inside (territory I) w e in omega arith));
      })

-- ---- the numbers that a call can answer

-- where what passes refusals 2 and 3 is not damaged, the number is 4 only if what follows is
tested_not_4 : (t : Prefix) (c : Change) (m : Lent) (next : ℕ) → (is_change c ≡ true → encloses t (named c) ≡ true → undamaged t (named c) m ≡ true)
    → ¬ (next ≡ 4) → ¬ (tested t c m next ≡ 4)
unfolding tested
tested_not_4 t c m next sound n = go (is_lent t m) (is_change c) (encloses t (named c)) (undamaged t (named c) m) refl refl refl
  where
    go : (x y z w : Bool) → is_change c ≡ y → encloses t (named c) ≡ z → undamaged t (named c) m ≡ w
        → ¬ (cond (not x) 1 (cond (not y) 2 (cond (not z) 3 (cond (not w) 4 next))) ≡ 4)
    go false y z w p q r e = omega arith
    go true false z w p q r e = omega arith
    go true true false w p q r e = omega arith
    go true true true true p q r e = n e
    go true true true false p q r e = let z = sym r ∙ sound p q in let o : ◌≡◌ {A = ℕ} 0 1 = cc in omega arith

refuses : (x : Bool) (number next : ℕ) → ¬ (number ≡ 4) → ¬ (next ≡ 4) → ¬ (cond x number next ≡ 4)
refuses true number next f g e = f e
refuses false number next f g e = g e

-- the refusals of a call's own
live_not_4 : (p : Prefix) (m : Lent) → ¬ (unless_live p m ≡ 4)
unfolding unless_live
live_not_4 p m = refuses (not (is_live p (routes m.rules))) 5 0 (λ e. omega arith) (λ e. omega arith)

room_not_4 : (t p : Prefix) (m : Lent) → ¬ (unless_room t p m ≡ 4)
unfolding unless_room
room_not_4 t p m =
    refuses (not (is_live p (routes m.rules)) && no_zero m.rules) 6 _ (λ e. omega arith)
    (refuses (needs_segment t p m.tables && no_zero m.tables.owners) 7 0 (λ e. omega arith) (λ e. omega arith))

own_not_4 : (t : Prefix) (c : Call) (m : Lent) → ¬ (own t c m ≡ 4)
own_not_4 t (announces r) m = room_not_4 t r.prefix m
own_not_4 t (withdraws p) m = live_not_4 p m
own_not_4 t (re_homes r) m = live_not_4 r.prefix m

answers_no_4 : (number : ℕ) (m n : Lent) → ¬ (number ≡ 4) → ¬ ((outcome number m n).report.code ≡ 4)
answers_no_4 number m n f = by_outcome (λ o. ¬ (o.report.code ≡ 4)) number m n (λ z e. omega arith) (λ z. f)

pub no_damage : (t : Prefix) (m : Lent) → IsLent t m → (h : History) (c : Call) → ¬ ((report t m h c).code ≡ 4)
unfolding report step code
no_damage t m l h c =
    let n = memory t m h in
    let I = inv_history t m l h in
    answers_no_4 _ n (effect t (change c) n)
    (tested_not_4 t (change c) n (own t c n)
    (λ x y. not_damaged t (live t m h) n I (named (change c)) (named-formed (change c) x) (says (encloses? t (named (change c))) y))
    (own_not_4 t c n))
