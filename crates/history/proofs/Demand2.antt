-- Demand 2: after every history, look up answers each address of the territory with the length and the hop of the longest live prefix that
-- contains it, and with 8 exactly if none does; the prefix that won is the address cut to that length. Assumes nothing.
use mathlib.Core.Path.{◌≡◌, refl, sym, ap, subst, ◌∙◌}
use mathlib.Core.Bool.{Bool, true, false, cond}
use mathlib.Core.List.{List}
use Prim.Native.Nat.{ℕ, ◌+◌, ◌*◌, ◌/◌, ◌%◌, ◌≤◌, ◌<◌}
use native.Mathlib.Omega.{arith}
use lib.Dec.{ltb, lit≤}
use lib.ListN.{length, get_or}
use Rattle.ground.proofs.Tests.{leb?, ltb?, eqb?, passes, stops}
use Rattle.prefix.specs.declared.Prefix.{Prefix}
use Rattle.prefix.specs.Prefixes.{top, Contains}
use Rattle.prefix.specs.Price.{is_open}
use Rattle.prefix.specs.Geometry.{blocks, block_start, block_of, block_size, width}
use Rattle.prefix.specs.declared.Route.{Route}
use Rattle.prefix.specs.Routes.{Match, no_route, via, best, IsLongest, IsBest, none, found, AllRoutes, Ascending}
use Rattle.prefix.proofs.Prefixes.{cut_to, in_range_lem}
use Rattle.prefix.proofs.Best.{best_is, longest_unique}
use Rattle.prefix.proofs.Blocks.{closed, closed_short, block_top}
use Rattle.cells.specs.Cells.{empty, pointer_bit, is_pointer, segment_of, hop_of, length_of, cell_of}
use Rattle.lookup.specs.Lookup.{Answer, refused, verdict_of, says_of, look_up, found as answer-found}
use Rattle.cells.proofs.Direct.{is_direct?}
use Rattle.lookup.proofs.Reading.{Stands, goes_on_lem}
use Rattle.prefix.proofs.Spans.{block_inside, aligned}
use Rattle.cells.specs.Memory.{Lent, IsLent}
use Rattle.history.specs.History.{History, memory, live, IsAnswer, routed, no_route as unrouted, won_by}
use Rattle.history.proofs.Matches.{Good, best_good, cell_direct}
use Rattle.history.proofs.Invariant.{Inv, territory}
use Rattle.history.proofs.Histories.{inv_history}

-- what a match is answered with
abbrev answer_of : Match → Answer
answer_of no_route = refused 8
answer_of (via h l) = answer-found l h

-- m goes through a prefix of at most l bits, or nowhere
abbrev AtMost : ℕ → Match → Type 0
AtMost limit no_route = Unit {0}
AtMost limit (via h l) = l ≤ limit

verdict_of_lem : (limit : ℕ) (m : Match) → Good m → AtMost limit m → verdict_of limit (cell_of m) ≡ answer_of m
unfolding verdict_of
verdict_of_lem limit no_route g s = refl
verdict_of_lem limit (via h l) g s =
    let cell = cell_of (via h l) in
    let hop : hop_of cell ≡ h = omega arith in
    let length : length_of cell ≡ l = omega arith in
    rw (
      stops (eqb? cell empty) (λ e. omega arith),
      passes (is_direct? limit cell) (record { some_hop = omega arith; hop_fits = omega arith; length_fits = omega arith }),
      hop,
      length,
    )

module _ (t : Prefix) (rs : List Route) (m : Lent) (I : Inv t rs m) (a : ℕ) (c : Contains t a) where
  stands : Stands (length m.tables.first) (length m.tables.long) t a
  stands = record {
    lent = record {
      territory = territory I;
      a_cell_a_block = I.tables.sized.firsts;
      whole_segments = omega (arith, I.tables.sized.longs);
      not_too_many = omega (arith, I.tables.sized.longs, I.tables.sized.few);
    };
    inside = c;
  }

  -- the address in its block
  in_block : block_start t (block_of t a) + a % block_size ≡ a
  in_block = omega (arith, aligned (territory I), (in_range_lem (territory I).formed c).0)

  says_best : says_of m.tables.long (a % block_size) (get_or m.tables.first (block_of t a) 0) ≡ answer_of (best rs a)
  unfolding says_of
  says_best = go (is_open rs (block_start t (block_of t a))) refl
    where
      here : block_of t a < blocks t
      here = block_inside (territory I) c

      good : Good (best rs a)
      good = best_good rs a I.list.all

      go : (x : Bool) → is_open rs (block_start t (block_of t a)) ≡ x
          → cond (is_pointer (get_or m.tables.first (block_of t a) 0))
          (cond (ltb (segment_of (get_or m.tables.first (block_of t a) 0)) (length m.tables.long / block_size))
          (verdict_of 32 (get_or m.tables.long (segment_of (get_or m.tables.first (block_of t a) 0) * block_size + a % block_size) 0)) (refused 4))
          (verdict_of width (get_or m.tables.first (block_of t a) 0))
          ≡ answer_of (best rs a)
      go true o =
          let S = I.tables.open_at (block_of t a) here o in
          let q = S.owns.points in
          let cell = get_or m.tables.first (block_of t a) 0 in
          let s : segment_of cell ≡ S.number = omega arith in
          rw (
            passes (leb? pointer_bit cell) (omega arith),
            s,
            passes (ltb? S.number (length m.tables.long / block_size)) (omega (arith, S.owns.lent, I.tables.sized.longs)),
            S.cells (a % block_size) (omega arith),
            in_block,
          ) (verdict_of_lem 32 (best rs a) good (at_most (best rs a) good))
        where
          at_most : (x : Match) → Good x → AtMost 32 x
          at_most no_route g = tt
          at_most (via h l) g = g.2
      go false o =
          let A = block_start t (block_of t a) in
          let z : A % block_size ≡ 0 = omega (arith, aligned (territory I)) in
          let one : best rs A ≡ best rs a =
          closed width rs A a (lit≤ tt) I.list.all o (sym (block_top A (a % block_size) z (omega arith)) ∙ ap (top width) in_block) in
          let cell : get_or m.tables.first (block_of t a) 0 ≡ cell_of (best rs a) = I.tables.closed (block_of t a) here o ∙ ap cell_of one in
          rw (
            cell,
            stops (leb? pointer_bit (cell_of (best rs a))) (λ g. omega (arith, cell_direct (best rs a) good)),
          ) (verdict_of_lem width (best rs a) good (short (best rs a) one))
        where
          short : (x : Match) → best rs (block_start t (block_of t a)) ≡ x → AtMost width x
          short no_route e = tt
          short (via h l) e = closed_short width rs (block_start t (block_of t a)) h l I.list.all o e

  look_up-best : look_up m.tables.first m.tables.long t a ≡ answer_of (best rs a)
  unfolding look_up
  look_up-best = sym (goes_on_lem refused (length m.tables.first) (length m.tables.long) t a _ stands) ∙ says_best

  is_answer : IsAnswer rs a (look_up m.tables.first m.tables.long t a)
  is_answer = go (best_is rs a)
    where
      go : IsBest rs a (best rs a) → IsAnswer rs a (look_up m.tables.first m.tables.long t a)
      go (none e n) = unrouted n (look_up-best ∙ ap answer_of e)
      go (found r e l) = routed r l (look_up-best ∙ ap answer_of e)

-- ---- what a right answer says

module _ {rs : List Route} {a : ℕ} (all : AllRoutes rs) where
  -- there is one
  same : Ascending rs → {x y : Answer} → IsAnswer rs a x → IsAnswer rs a y → x ≡ y
  same o (routed r l e) (routed s k f) = e ∙ ap (λ (q : Route). answer-found q.prefix.length q.hop) (longest_unique rs all o l k) ∙ sym f
  same o (routed r l e) (unrouted n f) = absurd (n r l.member l.contains)
  same o (unrouted n e) (routed s k f) = absurd (n s k.member k.contains)
  same o (unrouted n e) (unrouted m f) = e ∙ sym f

  -- the prefix that won is the address cut to the length: it is live with the hop, and no live prefix that contains the address is longer
  won : {answer : Answer} → IsAnswer rs a answer → answer.code ≡ 0 → IsLongest rs a (won_by a answer)
  won (routed r l e) z =
      let cut = cut_to (all r l.member).formed l.contains in
      let winner : r ≡ won_by a (answer-found r.prefix.length r.hop) = λ i. record { prefix = cut i; hop = r.hop } in
      subst (IsLongest rs a) (winner ∙ ap (won_by a) (sym e)) l
  won (unrouted n e) z = absurd (omega (arith, ap (λ (x : Answer). x.code) e))

-- Demand 2.
pub demand_2 : (t : Prefix) (m : Lent) → IsLent t m → (h : History) (a : ℕ) → Contains t a
    → IsAnswer (live t m h) a (look_up (memory t m h).tables.first (memory t m h).tables.long t a)
demand_2 t m l h a c = is_answer t (live t m h) (memory t m h) (inv_history t m l h) a c

-- It fixes number, length and hop: no other answer is right.
pub one_answer : (t : Prefix) (m : Lent) → IsLent t m → (h : History) {a : ℕ} {x y : Answer}
    → IsAnswer (live t m h) a x → IsAnswer (live t m h) a y → x ≡ y
one_answer t m l h = let I = inv_history t m l h in same I.list.all I.list.order

-- And in support's words: where look up answers no refusal, the prefix that won is the address cut to the length that it answers, and it is
-- live with the hop that it answers. None that is live and contains the address is longer.
pub prefix_that_won : (t : Prefix) (m : Lent) → IsLent t m → (h : History) (a : ℕ) → Contains t a
    → let answer = look_up (memory t m h).tables.first (memory t m h).tables.long t a in
    answer.code ≡ 0 → IsLongest (live t m h) a (won_by a answer)
prefix_that_won t m l h a c = won (inv_history t m l h).list.all (demand_2 t m l h a c)
