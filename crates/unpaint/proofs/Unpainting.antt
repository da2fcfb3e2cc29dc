-- Withdrawal's repaint by parts: cells that stay, and cells up to the end of a run of the longest match, which all take its cell.
-- Assumes nothing.
use mathlib.Core.Path.{◌≡◌, refl, sym, ap, subst, ◌∙◌}
use mathlib.Core.Bool.{Bool, true, false, cond, not, ◌&&◌}
use mathlib.Core.List.{List}
use Prim.Native.Nat.{ℕ, ◌+◌, ◌-◌, ◌≤◌, ◌<◌}
use native.Mathlib.Nat.{le_refl, add-zero}
use native.Mathlib.Omega.{arith}
use lib.Dec.{eqb}
use lib.ListN.{length, get_or}
use Rattle.std.specs.List.{between}
use Rattle.std.specs.Prelude.{All}
use Rattle.std.proofs.lemmas.List.Edits.{get_or-between, length-between}
use Rattle.ground.proofs.Cases.{by_lt}
use Rattle.ground.proofs.Tests.{Decides, leb?, eqb?, and?, not?, says}
use Rattle.ground.proofs.Lists.{is_where, where_none, where_same, differing-refl}
use Rattle.prefix.specs.declared.Prefix.{Prefix}
use Rattle.prefix.specs.Geometry.{block_start}
use Rattle.prefix.specs.declared.Route.{Route}
use Rattle.prefix.specs.Routes.{best}
use Rattle.cells.specs.Cells.{empty, length_of, pointer_bit, cell_of}
use Rattle.cells.specs.Memory.{Tables, tables_of}
use Rattle.rules.specs.Rules.{routes}
use Rattle.runs.specs.declared.Run.{Run}
use Rattle.runs.specs.inner.Kept.{Kept}
use Rattle.tables.specs.Cellwise.{unpaint_cell}
use Rattle.tables.specs.inner.Ranges.{RunChanged, BlocksChanged}
use Rattle.unpaint.specs.inner.Unpaint.{stays, passed, replaced, Pass, Closed}
use Rattle.tables.proofs.Ranges.{in_range?, run_none, run_cong, run_then}
use Rattle.tables.proofs.Segments.{direct_among?, open_among?}
use Rattle.tables.proofs.Blocks.{blocks_then}
use Rattle.tables.proofs.Cellwise.{unpaint_off}

-- ---- one cell

-- the cell is withdrawn: it is not 0, and of the length l
abbrev pub Goes : ℕ → ℕ → Type 0
Goes l cell = (cell ≡ empty → ⊥) × (length_of cell ≡ l)

pub stays? : (l cell : ℕ) → Decides (Goes l cell → ⊥) (stays l cell)
unfolding stays
stays? l cell = not? (and? (not? (eqb? cell empty)) (eqb? (length_of cell) l))

pub passed? : (l cell : ℕ) → Decides ((pointer_bit ≤ cell → ⊥) × (Goes l cell → ⊥)) (passed l cell)
unfolding passed
passed? l cell = and? (not? (leb? pointer_bit cell)) (stays? l cell)

-- a cell that takes the longest match of its address is replaced by that
unpaint_replaced : (l : ℕ) (rs : List Route) (a cell : ℕ) → replaced l (cell_of (best rs a)) cell ≡ unpaint_cell l rs a cell
unfolding replaced stays unpaint_cell
unpaint_replaced l rs a cell = turned (not (eqb cell empty) && eqb (length_of cell) l)
  where
    turned : (t : Bool) → cond (not t) cell (cell_of (best rs a)) ≡ cond t (cell_of (best rs a)) cell
    turned true = refl
    turned false = refl

-- ---- a run of cells

-- all stay
run_stay : (g : ℕ → ℕ → ℕ) (from to : ℕ) (cells : List ℕ) → ((k : ℕ) → from ≤ k → k < to → g k (get_or cells k 0) ≡ get_or cells k 0)
    → RunChanged g from to cells cells 0
run_stay g from to cells stay = record {
  is = is_where (in_range? from to) g cells cells refl (λ i l h. sym (stay i h.0 h.1)) (λ i l n. refl);
  count = sym (differing-refl cells);
}

-- those that are passed over
pub passed_run : (l : ℕ) {from to : ℕ} {cells : List ℕ} → Pass (stays l) from to cells → (rs : List Route) (address : ℕ → ℕ)
    → RunChanged (λ k. unpaint_cell l rs (address k)) from to cells cells 0
passed_run l {cells = cells} pass rs address =
    run_stay _ _ _ cells (λ k low high. unpaint_off l rs (address k) (get_or cells k 0) (says (stays? l (get_or cells k 0)) (pass k low high)))

-- all take the cell of a run that holds for their addresses
pub run_taken : (l : ℕ) {ws : List ℕ} {used a new from to r : ℕ} {run : Run} {cells after : List ℕ} (address : ℕ → ℕ) → Kept ws used a run
    → ((k : ℕ) → from ≤ k → k < to → (a ≤ address k) × (address k < run.end)) → RunChanged (λ k. replaced l new) from to cells after r
    → new ≡ run.cell → RunChanged (λ k. unpaint_cell l (routes ws) (address k)) from to cells after r
run_taken l {ws} address kept reached c is =
    run_cong c (λ k. unpaint_cell l (routes ws) (address k)) (λ k x low high.
    let h = reached k low high in
    ap (λ (v : ℕ). replaced l v x) (is ∙ kept.same (address k) h.0 h.1) ∙ unpaint_replaced l (routes ws) (address k) x)

-- ---- a loop over the cells from..to, at i: those before it are changed, and `changed` of them differ

pub record Reached (g : ℕ → ℕ → ℕ) (from to : ℕ) (cells₀ cells : List ℕ) (changed i : ℕ) : Type 0 where
  pub low : from ≤ i
  pub high : i ≤ to
  pub done : RunChanged g from i cells₀ cells changed
  pub few : changed + from ≤ i

pub start : {g : ℕ → ℕ → ℕ} {from to : ℕ} {cells : List ℕ} → from ≤ to → Reached g from to cells cells 0 from
start {from = from} h = record { low = le_refl from; high = h; done = run_none; few = omega arith }

-- it goes on by a part of them, and over some that stay
module _ {g : ℕ → ℕ → ℕ} {from to changed i : ℕ} {cells₀ cells : List ℕ} (inv : Reached g from to cells₀ cells changed i) where
  pub part : {end next d : ℕ} {after : List ℕ} → RunChanged g i end cells after d → d + i ≤ end → next ≡ end → next ≤ to
      → Reached g from to cells₀ after (changed + d) next
  part {end} {next} {d} {after} c few e high = record {
    low = omega (arith, inv.low);
    high = high;
    done = rw e (run_then inv.done inv.low (omega arith) c);
    few = omega (arith, inv.few);
  }

  pub part_none : {next : ℕ} → RunChanged g i next cells cells 0 → i ≤ next → next ≤ to → Reached g from to cells₀ cells changed next
  part_none {next} c low high = subst (λ (n : ℕ). Reached g from to cells₀ cells n next) (add-zero changed) (part c (omega arith) refl high)

-- ---- a run of blocks

-- whose first cells are no pointers
pub blocks_closed : {t : Prefix} {f : ℕ → ℕ → ℕ} {from to r : ℕ} {T : Tables} {first : List ℕ} → Closed from to T.first
    → RunChanged (λ k. f (block_start t k)) from to T.first first r → BlocksChanged t f from to T first T.long r
blocks_closed {t} {f} {from} {to} {T = T} closed c = record {
  firsts = c.is ∙ where_same (in_range? from to) (direct_among? from to T.first) _ T.first
      (λ k h. record { meets = h; direct = closed k h.0 h.1 }) (λ k d. d.meets);
  longs = where_none (open_among? from to T) _ T.long (λ i o. omega (arith, closed o.block o.meets.0 o.meets.1, o.points));
  count = omega (arith, c.count, differing-refl T.long);
}

-- whose first cells are passed over
passed_blocks : (l : ℕ) {t : Prefix} {from to : ℕ} {T : Tables} → Pass (passed l) from to T.first → (rs : List Route)
    → BlocksChanged t (unpaint_cell l rs) from to T T.first T.long 0
passed_blocks l {t} {T = T} pass rs =
    blocks_closed (λ k low high. let n = (says (passed? l (get_or T.first k 0)) (pass k low high)).0 in omega arith)
    (run_stay _ _ _ T.first (λ k low high.
    unpaint_off l rs (block_start t k) (get_or T.first k 0) (says (passed? l (get_or T.first k 0)) (pass k low high)).1))

-- the blocks before mid are changed, and those after it that are passed over stay
pub blocks_passed : (l : ℕ) (rs : List Route) {t : Prefix} {T : Tables} {first long : List ℕ} {from mid to r : ℕ}
    → BlocksChanged t (unpaint_cell l rs) from mid T first long r → from ≤ mid → mid ≤ to → Pass (passed l) mid to first
    → BlocksChanged t (unpaint_cell l rs) from to T first long r
blocks_passed l rs {t} {T} {first} {long} {from} {mid} {to} {r} p low high pass =
    subst (λ (n : ℕ). BlocksChanged t (unpaint_cell l rs) from to T first long n) (add-zero r)
    (blocks_then p low high (passed_blocks l {T = tables_of first long T.owners} pass rs))

-- ---- up to i, and at i

pub each_more : (P : ℕ → Type 0) {from i : ℕ} → ((k : ℕ) → from ≤ k → k < i → P k) → P i → (k : ℕ) → from ≤ k → k < i + 1 → P k
each_more P {i = i} f p k low high = by_lt k i (f k low) (λ ge. let e : i ≡ k = omega arith in subst P e p)

-- what the cells from..end have, by themselves, those from..to have where they stand
each_part : (P : ℕ → Type 0) (cells : List ℕ) {from to end : ℕ}
    → ((k : ℕ) → k < length (between from end cells) → P (get_or (between from end cells) k 0)) → to ≤ end → end ≤ length cells
    → (k : ℕ) → from ≤ k → k < to → P (get_or cells k 0)
each_part P cells {from} {to} {end} part most inside k low high =
    let at : from + (k - from) ≡ k = omega arith in
    let here = get_or-between cells from end (k - from) 0 (omega arith) in
    subst P (here ∙ ap (λ (j : ℕ). get_or cells j 0) at) (part (k - from) (omega (arith, length-between cells from end inside)))

-- no pointer is among the cells from..end
pub closed_part : (first : List ℕ) {from to end : ℕ} → All (λ cell. cell < pointer_bit) (between from end first) → to ≤ end → end ≤ length first
    → Closed from to first
closed_part first all = each_part (λ cell. cell < pointer_bit) first (λ k. all k 0)

-- the cells up to i pass, and so do those from there to the end, by themselves
pub pass_more : (test : ℕ → Bool) (cells : List ℕ) {from i end : ℕ} → Pass test from i cells
    → Pass test 0 (length (between i end cells)) (between i end cells) → end ≤ length cells → Pass test from end cells
pass_more test cells {i = i} {end = end} before part inside k low high =
    by_lt k i (before k low) (λ ge. each_part (λ cell. test cell ≡ true) cells (λ j. part j (omega arith)) (le_refl end) inside k ge high)
