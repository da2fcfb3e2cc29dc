-- Withdraw keeps the tables: what it leaves is the tables of the list without the prefix. Assumes nothing.
use mathlib.Core.Path.{◌≡◌, refl, sym, ap, subst, ◌∙◌}
use mathlib.Core.Bool.{Bool, true, false, cond, true≢false}
use mathlib.Core.List.{List, Memᴰ as Mem}
use Prim.Native.Nat.{ℕ, ◌<◌}
use native.Mathlib.Omega.{arith}
use lib.ListN.{get_or}
use lib.Seq.{get_or-set_other}
use Rattle.ground.proofs.Tests.{Decides, holds, fails, passes}
use Rattle.ground.proofs.Cases.{by_lt, by_eq}
use Rattle.prefix.specs.declared.Prefix.{Prefix}
use Rattle.prefix.specs.Prefixes.{contains, WellFormed, Encloses}
use Rattle.prefix.specs.Geometry.{Territory, block_start, block_of, blocks, width}
use Rattle.prefix.specs.Price.{is_open}
use Rattle.prefix.specs.declared.Route.{Route}
use Rattle.prefix.specs.Routes.{best, without, AllRoutes, Ascending}
use Rattle.prefix.proofs.Blocks.{Opens, opened?, opened_without_other, opened_fewer}
use Rattle.prefix.proofs.Changes.{without-routes}
use Rattle.cells.specs.Cells.{pointer_bit, point_to, segment_of, cell_of}
use Rattle.prefix.proofs.Spans.{block_inside, opens-own, opens_only}
use Rattle.cells.specs.Memory.{Tables}
use Rattle.tables.specs.Cellwise.{unpaint_cell, repainted}
use Rattle.updates.proofs.Taking.{closes?}
use Rattle.tables.specs.Changes.{closed_at, closes, closed_for}
use Rattle.history.proofs.Holding.{retold, pointer_stays, repaint_step, close_step, Holds}
use Rattle.history.proofs.Matches.{best_good, cell_direct, unpaint_best}
use Rattle.history.proofs.LiveTables.{TablesOf}

module _ (t p : Prefix) (rs : List Route) (T : Tables) (H : TablesOf t rs T) (h : Territory t) (w : WellFormed p)
    (e : Encloses t p) (all : AllRoutes rs) (order : Ascending rs) (r : Route) (live : Mem r rs) (is : r.prefix ≡ p) where
  abbrev b : ℕ
  b = block_of t p.address

  abbrev left : List Route
  left = without p rs

  abbrev O : ℕ → Bool
  O k = is_open rs (block_start t k)

  abbrev Q : ℕ → Bool
  Q k = is_open left (block_start t k)

  here : b < blocks t
  here = block_inside h e.inside

  -- a block that the prefix does not open is as open as it was
  same_open : (k : ℕ) → ¬ Opens width p (block_start t k) → Q k ≡ O k
  same_open k n = opened_without_other width p rs (block_start t k) n

  others : (k : ℕ) → ¬ (k ≡ b) → Q k ≡ O k
  others k d = same_open k (λ o. d (opens_only t p k h e o))

  -- the block of a live prefix longer than width was open
  was_open : width < p.length → O b ≡ true
  was_open long =
      passes (opened? width rs (block_start t b)) (r, live, subst (λ (q : Prefix). Opens width q (block_start t b)) (sym is) (opens-own t p h e long))

  abbrev before : Tables
  before = repainted t p (unpaint_cell p.length left) T

  repainted-tables : Holds t O (λ a. cell_of (best left a)) before
  repainted-tables =
      let unpainted : (a : ℕ) → cell_of (best left a)
      ≡ cond (contains p a) (unpaint_cell p.length left a (cell_of (best rs a))) (cell_of (best rs a)) =
      λ a. sym (unpaint_best p rs a all order w) in
      retold (repaint_step H p (unpaint_cell p.length left)
      (λ a. subst (λ (x : ℕ). x < pointer_bit) (unpainted a) (cell_direct (best left a) (best_good left a (without-routes p rs all)))))
      (λ k l. refl) unpainted

  -- the pointer of an open block names its segment
  own_segment : {C : ℕ → ℕ} {U : Tables} → Holds t O C U → O b ≡ true → get_or U.first b 0 ≡ point_to (segment_of (get_or U.first b 0))
  own_segment K o = let q = (K.open_at b here o).owns.points in omega arith

  pub withdrawn_tables : TablesOf t left (closed_for t p left before)
  unfolding closed_for
  withdrawn_tables = go (closes t p left) (closes? t p left)
    where
      go : (x : Bool) → Decides ((width < p.length) × ¬ (Q b ≡ true)) x
          → Holds t Q (λ a. cell_of (best left a))
          (cond x (closed_at b (segment_of (get_or before.first b 0)) (cell_of (best left (block_start t b))) before) before)
      go x (holds c) =
          close_step repainted-tables b (segment_of (get_or before.first b 0)) here (was_open c.0)
          (own_segment repainted-tables (was_open c.0))
          (is_false (Q b) c.1) others
        where
          is_false : (y : Bool) → ¬ (y ≡ true) → y ≡ false
          is_false true n = absurd (n refl)
          is_false false n = refl
      go x (fails c) =
          retold repainted-tables (λ k l.
          by_lt width p.length
          (λ long.
          by_eq k b
          (λ q. ap Q q ∙ still (Q b) refl (λ n. c (long, n)) ∙ sym (ap O q ∙ was_open long))
          (others k))
          (λ short. same_open k (λ o. let g = o.long in omega arith)))
          (λ a. refl)
        where
          still : (y : Bool) → Q b ≡ y → ¬ ¬ (Q b ≡ true) → y ≡ true
          still true q n = refl
          still false q n = absurd (n (λ z. true≢false (sym z ∙ q)))

  -- ---- what the count needs: no block opens, and one that stays open keeps its pointer

  pub only_closing : (k : ℕ) → Q k ≡ true → O k ≡ true
  only_closing k q = opened_fewer width p rs (block_start t k) q

  pub withdrawn_keeps : (k : ℕ) → k < blocks t → O k ≡ true → Q k ≡ true
      → get_or (closed_for t p left before).first k 0 ≡ get_or T.first k 0
  unfolding closed_for closed_at
  withdrawn_keeps k l o q =
      go (closes t p left) (closes? t p left) ∙ pointer_stays H p (unpaint_cell p.length left) k (H.open_at k l o).number l (H.open_at k l o).owns.points
    where
      go : (x : Bool) → Decides ((width < p.length) × ¬ (Q b ≡ true)) x
          → get_or (cond x (closed_at b (segment_of (get_or before.first b 0)) (cell_of (best left (block_start t b))) before) before).first k 0
          ≡ get_or before.first k 0
      go x (holds c) =
          get_or-set_other before.first b k (cell_of (best left (block_start t b))) 0 (λ e. c.1 (ap Q (sym e) ∙ q))
      go x (fails c) = refl
