-- Cells of matches: what a cell says of the match that it stands for, and that painting and unpainting a cell is what becomes of the longest
-- match. Assumes nothing.
use mathlib.Core.Path.{◌≡◌, refl, sym, ap, ap₂, ◌∙◌}
use mathlib.Core.Bool.{Bool, true, false, cond, not, ◌&&◌, ◌||◌}
use mathlib.Core.List.{List}
use Prim.Native.Nat.{ℕ, ◌≤◌, ◌<◌}
use native.Mathlib.Omega.{arith}
use lib.Dec.{leb, eqb}
use Rattle.ground.specs.Lists.{differs}
use Rattle.ground.proofs.Tests.{Decides, holds, fails, eqb?, stops, by_test}
use Rattle.ground.proofs.Lists.{differs-same, differs-other}
use Rattle.prefix.specs.declared.Prefix.{Prefix}
use Rattle.prefix.specs.Prefixes.{contains, WellFormed, Contains}
use Rattle.prefix.specs.Price.{differ}
use Rattle.prefix.specs.declared.Route.{Route}
use Rattle.prefix.specs.Routes.{Match, no_route, via, better, best, without, no_longer, last_hop, AllRoutes, Ascending}
use Rattle.prefix.proofs.Prefixes.{contains?}
use Rattle.prefix.proofs.Changes.{best-length, has_length, without_other}
use Rattle.prefix.proofs.Blocks.{differ_same, differ-other}
use Rattle.cells.specs.Cells.{empty, pack, length_of, pointer_bit, cell_of}
use Rattle.tables.specs.Cellwise.{paint_cell, unpaint_cell}

-- a match that a list of routes can give: a hop from 1 to 32,767 and a length of at most 32
abbrev pub Good : Match → Type 0
Good no_route = Unit {0}
Good (via h l) = (1 ≤ h) × (h ≤ last_hop) × (l ≤ 32)

pub best_good : (rs : List Route) (a : ℕ) → AllRoutes rs → Good (best rs a)
best_good rs a all = go (best rs a) refl
  where
    go : (m : Match) → best rs a ≡ m → Good m
    go no_route e = tt
    go (via h l) e =
        let r = best-length rs a h l e in
        let i = all r.0 r.1 in
        let s = i.formed.short in
        let u = i.some_hop in
        let f = i.hop_fits in
        let p = r.3 in
        let q = r.4 in
        (omega arith, omega arith, omega arith)

-- ---- the cell of a match

pub cell_direct : (m : Match) → Good m → cell_of m < pointer_bit
cell_direct no_route g = omega arith
cell_direct (via h l) g = omega arith

pub cell_inj : (m n : Match) → Good m → Good n → cell_of m ≡ cell_of n → m ≡ n
cell_inj no_route no_route f g e = refl
cell_inj no_route (via h l) f g e = absurd (omega arith)
cell_inj (via h l) no_route f g e = absurd (omega arith)
cell_inj (via h l) (via i k) f g e =
    let p : h ≡ i = omega arith in
    let q : l ≡ k = omega arith in
    ap₂ via p q

-- two cells differ exactly where their matches do
pub cells_differ : (m n : Match) → Good m → Good n → differs (cell_of m) (cell_of n) ≡ differ m n
cells_differ m n f g =
    by_test (eqb? (cell_of m) (cell_of n))
    (λ e. differs-same (cell_of m) (cell_of n) e ∙ sym (differ_same m n (cell_inj m n f g e)))
    (λ d. differs-other (cell_of m) (cell_of n) d ∙ sym (differ-other m n (λ e. d (ap cell_of e))))

-- ---- painting a cell

-- the test of painting is that of the longest match
paints : (m : Match) (l : ℕ) → Good m → (eqb (cell_of m) empty || leb (length_of (cell_of m)) l) ≡ no_longer m l
paints no_route l g = refl
paints (via h k) l g =
    let n : length_of (cell_of (via h k)) ≡ k = omega arith in
    rw (stops (eqb? (cell_of (via h k)) empty) (λ e. omega arith), n)

pub paint_better : (r : Route) (a : ℕ) (m : Match) → Good m
    → cond (contains r.prefix a) (paint_cell r.prefix.length (pack r.hop r.prefix.length) (cell_of m)) (cell_of m) ≡ cell_of (better r a m)
unfolding paint_cell better
paint_better r a m g = rw (paints m r.prefix.length g) (go (contains r.prefix a) (no_longer m r.prefix.length))
  where
    go : (x y : Bool) → cond x (cond y (pack r.hop r.prefix.length) (cell_of m)) (cell_of m) ≡ cell_of (cond (x && y) (via r.hop r.prefix.length) m)
    go true true = refl
    go true false = refl
    go false y = refl

-- ---- unpainting a cell

unpaints : (m : Match) (l : ℕ) → Good m → (not (eqb (cell_of m) empty) && eqb (length_of (cell_of m)) l) ≡ has_length m l
unpaints no_route l g = refl
unpaints (via h k) l g =
    let n : length_of (cell_of (via h k)) ≡ k = omega arith in
    rw (stops (eqb? (cell_of (via h k)) empty) (λ e. omega arith), n)

pub unpaint_best : (p : Prefix) (rs : List Route) (a : ℕ) → AllRoutes rs → Ascending rs → WellFormed p
    → cond (contains p a) (unpaint_cell p.length (without p rs) a (cell_of (best rs a))) (cell_of (best rs a)) ≡ cell_of (best (without p rs) a)
unfolding unpaint_cell
unpaint_best p rs a all order w =
    rw (unpaints (best rs a) p.length (best_good rs a all)) (go (contains p a) (has_length (best rs a) p.length) (contains? p a) refl)
  where
    other : ¬ ((Contains p a) × (has_length (best rs a) p.length ≡ true)) → cell_of (best rs a) ≡ cell_of (best (without p rs) a)
    other n = ap cell_of (sym (without_other p rs a all order n))

    go : (x y : Bool) → Decides (Contains p a) x → has_length (best rs a) p.length ≡ y
        → cond x (cond y (cell_of (best (without p rs) a)) (cell_of (best rs a))) (cell_of (best rs a)) ≡ cell_of (best (without p rs) a)
    go x true (holds c) e = refl
    go x false (holds c) e = other (λ h. let z = sym e ∙ h.1 in let o : ◌≡◌ {A = ℕ} 0 1 = cc in omega arith)
    go x y (fails n) e = other (λ h. n h.0)
