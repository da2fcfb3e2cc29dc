-- Demand 3: for every update of every history, the reported number equals the cells that differ, and the price from the live lists before
-- and after; it is at most 257 for a prefix longer than 24, and for any other at most its blocks and 255 for each that has a segment open;
-- a refused update costs 0. Assumes nothing.
use mathlib.Core.Path.{◌≡◌, refl, sym, ap, subst, ◌∙◌}
use mathlib.Core.Bool.{Bool, true, false, cond, ◌||◌, true≢false}
use mathlib.Core.List.{List, Memᴰ as Mem}
use Prim.Native.Nat.{ℕ, ◌≤◌}
use native.Mathlib.Omega.{arith}
use lib.Dec.{eqb}
use Rattle.ground.proofs.Tests.{eqb?, stops}
use Rattle.history.proofs.LiveTables.{TablesOf}
use Rattle.updates.specs.Effects.{retabled, effect}
use Rattle.ground.proofs.Lists.{differing-refl}
use Rattle.prefix.specs.declared.Prefix.{Prefix}
use Rattle.prefix.specs.Prefixes.{Contains, WellFormed, Encloses}
use Rattle.prefix.specs.Price.{is_open, price}
use Rattle.prefix.specs.Geometry.{block_start, width}
use Rattle.prefix.specs.declared.Route.{Route}
use Rattle.prefix.specs.Routes.{best, named, Change, applied, puts, takes}
use Rattle.prefix.proofs.Best.{better_off}
use Rattle.prefix.proofs.Changes.{best_with, with_same, without_other}
use Rattle.prefix.proofs.Blocks.{Opens, opens?, opened_with, opened_without_other, price_none}
use Rattle.cells.specs.Memory.{Lent, IsLent}
use Rattle.refusals.specs.Codes.{Call, announces, change, code}
use Rattle.tables.specs.Changes.{changed}
use Rattle.updates.specs.Calls.{outcome, step}
use Rattle.updates.proofs.Outcomes.{by_outcome}
use Rattle.history.specs.Costs.{short_most, Costs}
use Rattle.history.specs.History.{History, ◌then◌, memory, report, is_accepted, live}
use Rattle.history.proofs.Announcing.{only_opening, announced_keeps}
use Rattle.history.proofs.Withdrawing.{only_closing, withdrawn_keeps}
use Rattle.history.proofs.Counts.{opening, closing, count_is_price, OneWay, Keeps}
use Rattle.history.proofs.Bounds.{long_bound, short_bound}
use Rattle.history.proofs.Invariant.{Inv, live-routes, Makes, keeps, territory, retabled_owners}
use Rattle.history.proofs.Histories.{inv_history, makes}

-- a refusal answers 0 cells and the memory as it was
kept : (number : ℕ) (m n : Lent) → eqb (outcome number m n).report.code 0 ≡ false
    → ((outcome number m n).report.cells ≡ 0) × ((outcome number m n).lent ≡ m)
kept number m n =
    by_outcome (λ o. eqb o.report.code 0 ≡ false → (o.report.cells ≡ 0) × (o.lent ≡ m)) number m n (λ z e. absurd (true≢false e))
    (λ f e. (refl, refl))

-- ---- an accepted change

-- what the count and the bounds need of it: only the addresses of its prefix see it, a block that its prefix does not open is as open as it was,
-- blocks only open or only close, and one that is open both times keeps its first cell
pub record Local (t : Prefix) (c : Change) (rs : List Route) (m : Lent) : Type 0 where
  pub elsewhere : (a : ℕ) → ¬ Contains (named c) a → best rs a ≡ best (applied c rs) a
  pub as_open : (k : ℕ) → ¬ Opens width (named c) (block_start t k) → is_open (applied c rs) (block_start t k) ≡ is_open rs (block_start t k)
  pub way : OneWay t (λ k. is_open rs (block_start t k)) (λ k. is_open (applied c rs) (block_start t k))
  pub pointers : Keeps t (λ k. is_open rs (block_start t k)) (λ k. is_open (applied c rs) (block_start t k)) m.tables.first
      (retabled t c (applied c rs) m.tables).first
  pub formed : WellFormed (named c)
  pub inside : Encloses t (named c)

local : (t : Prefix) (c : Change) (rs : List Route) (m : Lent) → Inv t rs m → Makes t c rs m → Local t c rs m
unfolding retabled
local t (puts r) rs m I A = record {
  elsewhere = λ a n. sym (best_with r rs a A.route I.list.all ∙ better_off r a (best rs a) n);
  as_open = λ k n.
      opened_with width r rs (block_start t k)
      ∙ ap (λ (y : Bool). y || is_open rs (block_start t k)) (stops (opens? width r.prefix (block_start t k)) n);
  way = opening (λ k h o. only_opening t r rs m.tables I.tables (territory I) A.route A.inside I.list.all k o);
  pointers = λ k h o q. announced_keeps t r rs m.tables I.tables (territory I) A.route A.inside I.list.all A.free k h o;
  formed = A.route.formed;
  inside = A.inside;
}
local t (takes p) rs m I A =
    let L = A.lives in
    record {
      elsewhere = λ a n. sym (without_other p rs a I.list.all I.list.order (λ c. n c.0));
      as_open = λ k n. opened_without_other width p rs (block_start t k) n;
      way = closing (λ k h q.
          only_closing t p rs m.tables I.tables (territory I) A.formed A.inside I.list.all I.list.order L.0 L.1 L.2 k q);
      pointers = λ k h o q.
          withdrawn_keeps t p rs m.tables I.tables (territory I) A.formed A.inside I.list.all I.list.order L.0 L.1 L.2 k h o q;
      formed = A.formed;
      inside = A.inside;
    }

module _ (t : Prefix) (c : Change) (rs : List Route) (m : Lent) (I : Inv t rs m) (A : Makes t c rs m) where
  abbrev vs : List Route
  vs = applied c rs

  abbrev L : Local t c rs m
  L = local t c rs m I A

  -- the tables that it leaves, by the list in place of the words
  left-tables : (effect t c m).tables ≡ retabled t c vs m.tables
  unfolding effect
  left-tables = ap (λ (x : List Route). retabled t c (applied c x) m.tables) (live-routes I)

  counted : changed m.tables (effect t c m).tables ≡ price t rs vs
  counted =
      let J = keeps t c rs m I A in
      ap (changed m.tables) left-tables
      ∙ count_is_price t rs vs m.tables (retabled t c vs m.tables) I.list.all J.list.all I.tables
      (subst (TablesOf t vs) left-tables J.tables) (sym (retabled_owners t c vs m.tables)) L.pointers L.way

  change_costs : Costs t (named c) rs vs m (effect t c m) (changed m.tables (effect t c m).tables)
  unfolding short_most
  change_costs = record {
    differing = refl;
    priced = counted;
    long = λ l. omega (arith, counted, long_bound t (named c) (territory I) L.formed L.inside rs vs L.elsewhere L.as_open l);
    short = λ s. subst (λ (x : ℕ). x ≤ short_most t (named c) rs) (sym counted) (short_bound t (named c) (territory I) L.formed L.inside rs vs L.elsewhere L.as_open _ (omega arith) s);
  }

-- ---- every update of every history

-- a call that is accepted costs what its change costs, and one that is refused costs nothing
costs_stepped : (t p : Prefix) (rs us : List Route) (m n : Lent) (number : ℕ) → (number ≡ 0 → Costs t p rs us m n (changed m.tables n.tables))
    → Costs t p rs (cond (eqb (outcome number m n).report.code 0) us rs) m (outcome number m n).lent (outcome number m n).report.cells
costs_stepped t p rs us m n number costs =
    by_outcome (λ o. Costs t p rs (cond (eqb o.report.code 0) us rs) m o.lent o.report.cells) number m n costs
    (λ f. rw (stops (eqb? number 0) f) nothing)
  where
    nothing : Costs t p rs rs m m 0
    nothing = record {
      differing = omega (arith, differing-refl m.tables.first, differing-refl m.tables.long);
      priced = sym (price_none t rs);
      long = λ l. omega arith;
      short = λ s. omega arith;
    }

-- Demand 3.
pub demand_3 : (t : Prefix) (m : Lent) → IsLent t m → (h : History) (c : Call)
    → Costs t (named (change c)) (live t m h) (live t m (h then c)) (memory t m h) (memory t m (h then c)) (report t m h c).cells
unfolding memory live is_accepted report step
demand_3 t m l h c =
    let I = inv_history t m l h in
    let rs = live t m h in
    let n = memory t m h in
    costs_stepped t (named (change c)) rs (applied (change c) rs) n (effect t (change c) n) (code t c n)
    (λ e. change_costs t (change c) rs n I (makes t rs n I c e))

-- a refused update costs 0 and leaves every lent word as it was
pub refused_nothing : (t : Prefix) (m : Lent) (h : History) (c : Call) → is_accepted t m h c ≡ false
    → ((report t m h c).cells ≡ 0) × (memory t m (h then c) ≡ memory t m h)
unfolding memory is_accepted report step
refused_nothing t m h c e = kept (code t c (memory t m h)) (memory t m h) (effect t (change c) (memory t m h)) e

-- Announcing a live prefix with the same hop costs 0.
pub same_hop : (t : Prefix) (m : Lent) → IsLent t m → (h : History) (r : Route) → Mem r (live t m h) → (report t m h (announces r)).cells ≡ 0
unfolding live
same_hop t m l h r lives =
    let rs = live t m h in
    (demand_3 t m l h (announces r)).priced
    ∙ ap (price t rs) (ap (λ (x : List Route). cond (is_accepted t m h (announces r)) x rs) (with_same r rs (inv_history t m l h).list.order lives) ∙ either (is_accepted t m h (announces r)) rs)
    ∙ price_none t rs
  where
    either : (x : Bool) (rs : List Route) → cond x rs rs ≡ rs
    either true rs = refl
    either false rs = refl
