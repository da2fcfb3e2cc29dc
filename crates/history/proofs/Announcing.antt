-- Announce and re-home keep the tables: what they leave is the tables of the list with the route put in. Assumes nothing.
use mathlib.Core.Path.{◌≡◌, refl, sym, ap, subst, ◌∙◌}
use mathlib.Core.Bool.{Bool, true, false, cond, ◌||◌, or-true, false≢true}
use mathlib.Core.List.{List}
use Prim.Native.Nat.{ℕ, ◌+◌, ◌%◌, ◌<◌}
use native.Mathlib.Omega.{arith}
use lib.Dec.{lit≤}
use lib.ListN.{get_or}
use lib.Seq.{get_or-set_other}
use Rattle.ground.proofs.Tests.{Decides, holds, fails, passes, stops}
use Rattle.ground.proofs.Cases.{by_lt, by_eq}
use Rattle.prefix.specs.declared.Prefix.{Prefix}
use Rattle.prefix.specs.Prefixes.{contains, Encloses}
use Rattle.prefix.specs.Geometry.{Territory, block_start, block_of, blocks, block_size, width}
use Rattle.prefix.specs.Price.{opens, is_open}
use Rattle.prefix.specs.declared.Route.{Route}
use Rattle.prefix.specs.Routes.{best, with_route, IsRoute, AllRoutes}
use Rattle.prefix.proofs.Changes.{best_with}
use Rattle.prefix.proofs.Blocks.{opens?, opened_with, closed, block_top}
use Rattle.cells.specs.Cells.{pack, pointer_bit, point_to, cell_of}
use Rattle.prefix.proofs.Spans.{block_inside, opens-own, opens_only, aligned}
use Rattle.cells.specs.Memory.{no_zero, needs_segment, lowest_free, Tables}
use Rattle.tables.specs.Cellwise.{paint_cell, repainted}
use Rattle.cells.proofs.FreeSegments.{lowest_free_lem, needs_segment?}
use Rattle.tables.specs.Changes.{opened_at, opened_for}
use Rattle.history.proofs.Holding.{closed_cell, open_pointer, retold, pointer_stays, repaint_step, open_step, Holds}
use Rattle.history.proofs.Matches.{best_good, cell_direct, paint_better}
use Rattle.history.proofs.LiveTables.{TablesOf}

module _ (t : Prefix) (r : Route) (rs : List Route) (T : Tables) (H : TablesOf t rs T) (h : Territory t) (route : IsRoute r)
    (e : Encloses t r.prefix) (all : AllRoutes rs) where
  abbrev b : ℕ
  b = block_of t r.prefix.address

  abbrev O : ℕ → Bool
  O k = is_open rs (block_start t k)

  abbrev Q : ℕ → Bool
  Q k = is_open (with_route r rs) (block_start t k)

  here : b < blocks t
  here = block_inside h e.inside

  -- which blocks are open then
  also : (k : ℕ) (x : Bool) → opens width r.prefix (block_start t k) ≡ x → Q k ≡ x || O k
  also k x o = opened_with width r rs (block_start t k) ∙ ap (λ (y : Bool). y || O k) o

  others : (k : ℕ) → ¬ (k ≡ b) → Q k ≡ O k
  others k d = also k false (stops (opens? width r.prefix (block_start t k)) (λ o. d (opens_only t r.prefix k h e o)))

  own_open : width < r.prefix.length → Q b ≡ true
  own_open long = also b true (passes (opens? width r.prefix (block_start t b)) (opens-own t r.prefix h e long))

  -- a closed block has one cell
  one_cell : O b ≡ false → (i : ℕ) → i < block_size → cell_of (best rs (block_start t b + i)) ≡ cell_of (best rs (block_start t b))
  one_cell o i l =
      let z : block_start t b % block_size ≡ 0 = omega (arith, aligned h) in
      ap cell_of (sym (closed width rs (block_start t b) (block_start t b + i) (lit≤ tt) all o (sym (block_top (block_start t b) i z l))))

  abbrev C : ℕ → ℕ
  C a = cell_of (best rs a)

  opened-tables : ¬ ((needs_segment t r.prefix T ≡ true) × (no_zero T.owners ≡ true))
      → Holds t Q C (opened_for t r.prefix T)
  unfolding opened_for
  opened-tables room = go (needs_segment t r.prefix T) refl (needs_segment? t r.prefix T) (no_zero T.owners) refl
    where
      go : (x : Bool) → needs_segment t r.prefix T ≡ x → Decides ((width < r.prefix.length) × (get_or T.first b 0 < pointer_bit)) x
          → (y : Bool) → no_zero T.owners ≡ y
          → Holds t Q C (cond x (opened_at b (lowest_free T.owners) T) T)
      go x q (holds n) true z = absurd (room (q, z))
      go x q (holds n) false z =
          let f = lowest_free_lem T.owners z in
          let o = closed_cell H here n.1 in
          open_step H b (lowest_free T.owners) here f.0 o f.1 (own_open n.0) others (one_cell o)
      go x q (fails n) y z =
          retold H (λ k l.
          by_lt width r.prefix.length
          (λ long.
          by_eq k b
          (λ j. ap Q j ∙ own_open long ∙ sym (ap O j ∙ open_pointer H here (by_lt (get_or T.first b 0) pointer_bit (λ g. absurd (n (long, g))) (λ g. g))))
          (others k))
          (λ short. also k false (stops (opens? width r.prefix (block_start t k)) (λ o. let l = o.long in omega arith))))
          (λ a. refl)

  pub announced_tables : ¬ ((needs_segment t r.prefix T ≡ true) × (no_zero T.owners ≡ true)) → AllRoutes (with_route r rs)
      → TablesOf t (with_route r rs) (repainted t r.prefix (λ a. paint_cell r.prefix.length (pack r.hop r.prefix.length)) (opened_for t r.prefix T))
  announced_tables room all' =
      let painted : (a : ℕ) → cell_of (best (with_route r rs) a)
      ≡ cond (contains r.prefix a) (paint_cell r.prefix.length (pack r.hop r.prefix.length) (C a)) (C a) =
      λ a. ap cell_of (best_with r rs a route all) ∙ sym (paint_better r a (best rs a) (best_good rs a all)) in
      retold (repaint_step (opened-tables room) r.prefix (λ a. paint_cell r.prefix.length (pack r.hop r.prefix.length))
      (λ a. subst (λ (x : ℕ). x < pointer_bit) (painted a) (cell_direct (best (with_route r rs) a) (best_good (with_route r rs) a all'))))
      (λ k l. refl) painted

  -- ---- what the count needs: no block closes, and one that was open keeps its pointer

  pub only_opening : (k : ℕ) → O k ≡ true → Q k ≡ true
  only_opening k o = opened_with width r rs (block_start t k) ∙ ap (λ (y : Bool). opens width r.prefix (block_start t k) || y) o ∙ or-true (opens width r.prefix (block_start t k))

  opened_first : (k : ℕ) → O k ≡ true → get_or (opened_for t r.prefix T).first k 0 ≡ get_or T.first k 0
  unfolding opened_for opened_at
  opened_first k o = go (needs_segment t r.prefix T) (needs_segment? t r.prefix T)
    where
      go : (x : Bool) → Decides ((width < r.prefix.length) × (get_or T.first b 0 < pointer_bit)) x
          → get_or (cond x (opened_at b (lowest_free T.owners) T) T).first k 0 ≡ get_or T.first k 0
      go x (holds n) =
          get_or-set_other T.first b k (point_to (lowest_free T.owners)) 0 (λ e. false≢true (sym (closed_cell H here n.1) ∙ ap O (sym e) ∙ o))
      go x (fails n) = refl

  pub announced_keeps : ¬ ((needs_segment t r.prefix T ≡ true) × (no_zero T.owners ≡ true)) → (k : ℕ) → k < blocks t → O k ≡ true
      → get_or (repainted t r.prefix (λ a. paint_cell r.prefix.length (pack r.hop r.prefix.length)) (opened_for t r.prefix T)).first k 0
      ≡ get_or T.first k 0
  announced_keeps room k h o =
      let S = H.open_at k h o in
      pointer_stays (opened-tables room) r.prefix (λ a. paint_cell r.prefix.length (pack r.hop r.prefix.length)) k S.number h
      (opened_first k o ∙ S.owns.points)
      ∙ opened_first k o
