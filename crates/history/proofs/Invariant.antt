-- The invariant of a history: the rule words are the live list, and the tables hold the longest match of each address. Cleared memory has
-- it, and each accepted call keeps it. Assumes nothing.
use mathlib.Core.Path.{◌≡◌, refl, sym, ap, subst, ◌∙◌}
use mathlib.Core.Logic.{inl, inr}
use mathlib.Core.Bool.{Bool, true, false, cond, true≢false, false≢true}
use mathlib.Core.List.Memᴰ
use mathlib.Core.List.Memᴰ.{head as here}
use mathlib.Core.List.Memᴰ.{tail as there}
use mathlib.Core.List.{List, [], ◌∷◌, ◌++◌, map, Memᴰ as Mem}
use Prim.Native.Nat.{ℕ, suc, ◌+◌, ◌-◌, ◌*◌, ◌≤◌, ◌<◌}
use native.Mathlib.Omega.{arith}
use lib.ListN.{length, get_or, replicate, length-set, length-replicate, get_or-replicate, get_or-eq_default}
use Rattle.ground.proofs.Tests.{eqb?, stops}
use Rattle.prefix.proofs.Order.{same_prefix?, before-other, before-trans}
use Rattle.ground.proofs.Cases.{by_lt}
use Rattle.prefix.specs.declared.Prefix.{Prefix}
use Rattle.prefix.specs.Prefixes.{WellFormed, Encloses, Before}
use Rattle.prefix.specs.Geometry.{Territory, block_start, block_of, block_size}
use Rattle.prefix.specs.Price.{opened as opened-run}
use Rattle.prefix.specs.declared.Route.{Route}
use Rattle.prefix.specs.Routes.{best, with_route, without, keep, other, IsRoute, AllRoutes, Ascending, Change, applied, puts, takes}
use Rattle.prefix.proofs.Changes.{with_cases, keep_cases, with_mem, with_routes, with_ascending, without_mem, without-routes, without-ascending}
use Rattle.rules.specs.Words.{word_of}
use Rattle.rules.specs.Rules.{routes, words_of, is_live}
use Rattle.rules.proofs.RouteWords.{routes-words, length-words_of}
use Rattle.rules.proofs.Words.{some_route}
use Rattle.cells.specs.Memory.{Lent, lowest_free, IsLent, no_zero, needs_segment, Tables, most_rules}
use Rattle.updates.specs.Effects.{cleared, retabled, effect}
use Rattle.tables.specs.Changes.{closes, closed_at, opened_at, closed_for, opened_for}
use Rattle.tables.specs.Cellwise.{repainted, unpaint_cell}
use Rattle.cells.specs.Cells.{segment_of, cell_of}
use Rattle.rules.proofs.Indices.{IsLive}
use Rattle.history.proofs.Holding.{retold, cleared-tables}
use Rattle.history.proofs.LiveTables.{TablesOf}
use Rattle.history.proofs.Announcing.{announced_tables}
use Rattle.history.proofs.Withdrawing.{withdrawn_tables}

-- a list of routes of the territory, in order
pub record Listing (t : Prefix) (rs : List Route) : Type 0 where
  pub all : AllRoutes rs
  pub order : Ascending rs
  pub inside : (r : Route) → Mem r rs → Encloses t r.prefix

pub record Inv (t : Prefix) (rs : List Route) (m : Lent) : Type 0 where
  pub list : Listing t rs
  pub few_rules : length m.rules ≤ most_rules
  pub room : length rs ≤ length m.rules
  pub words : m.rules ≡ words_of (length m.rules) rs
  pub tables : TablesOf t rs m.tables

pub territory : {t : Prefix} {rs : List Route} {m : Lent} → Inv t rs m → Territory t
territory I = I.tables.sized.territory

-- ---- cleared memory

abbrev zeros : ℕ → List ℕ
zeros n = replicate n 0

length-zeros : (n : ℕ) → length (zeros n) ≡ n
length-zeros n = length-replicate n 0

zero_at : (n i : ℕ) → get_or (zeros n) i 0 ≡ 0
zero_at n i = by_lt i n (λ h. get_or-replicate n i 0 0 h) (λ h. get_or-eq_default (zeros n) 0 (omega (arith, length-zeros n)))

pub inv_start : (t : Prefix) (m : Lent) → IsLent t m → Inv t [] (cleared m)
unfolding cleared words_of opened-run best
inv_start t m l =
    let T = m.tables in
    record {
      list = record { all = λ r i. absurd (Memᴰ.not-nil i); order = tt; inside = λ r i. absurd (Memᴰ.not-nil i) };
      few_rules = omega (arith, length-zeros (length m.rules), l.few_rules);
      room = omega arith;
      words =
          let n : length (zeros (length m.rules)) - 0 ≡ length m.rules = omega (arith, length-zeros (length m.rules)) in
          ap zeros (sym n);
      tables =
          retold (cleared-tables
          (record {
            territory = l.sized.territory;
            firsts = length-zeros (length T.first) ∙ l.sized.firsts;
            longs = length-zeros (length T.long) ∙ l.sized.longs ∙ ap (λ (k : ℕ). block_size * k) (sym (length-zeros (length T.owners)));
            few = omega (arith, length-zeros (length T.owners), l.sized.few);
          })
          (zero_at (length T.first)) (zero_at (length T.long)) (zero_at (length T.owners)))
          (λ k h. refl) (λ a. refl);
    }

-- ---- a route put in

-- a route put in makes the list at most one longer, and no longer where its prefix is live
length_with : (r : Route) (rs : List Route) → length (with_route r rs) ≤ suc (length rs)
unfolding with_route
length_with r [] = omega arith
length_with r (s ∷ ss) =
    with_cases (λ us. length us ≤ suc (suc (length ss))) r s ss (λ h. omega arith) (λ h. omega arith) (λ h. omega (arith, length_with r ss))

length-live : (r : Route) (rs : List Route) → Ascending rs → is_live r.prefix rs ≡ true → length (with_route r rs) ≡ length rs
unfolding with_route is_live
length-live r [] o e = absurd (false≢true e)
length-live r (s ∷ ss) o e =
    with_cases (λ us. length us ≡ suc (length ss)) r s ss (λ h. absurd (gone h)) (λ h. refl) (λ h. ap suc (length-live r ss o.1 (later h)))
  where
    -- in order, a prefix before the first is not live
    none : (ss : List Route) → ((u : Route) → Mem u ss → Before r.prefix u.prefix) → is_live r.prefix ss ≡ false
    none [] low = refl
    none (u ∷ us) low =
        rw (stops (same_prefix? u.prefix r.prefix) (λ q. before-other (low u (here refl)) (sym q))) (none us (λ v i. low v (there i)))

    gone : Before r.prefix s.prefix → ⊥
    gone h =
        false≢true (sym (rw (stops (same_prefix? s.prefix r.prefix) (λ q. before-other h (sym q)))
        (none ss (λ u i. before-trans h (o.0 u i)))) ∙ e)

    later : Before s.prefix r.prefix → is_live r.prefix ss ≡ true
    later h = sym (rw (stops (same_prefix? s.prefix r.prefix) (before-other h))) ∙ e

-- one taken out makes it no longer
length_without : (p : Prefix) (rs : List Route) → length (without p rs) ≤ length rs
unfolding without
length_without p rs = length-keep rs
  where
    length-keep : (ss : List Route) → length (keep (other p) ss) ≤ length ss
    length-keep [] = omega arith
    length-keep (s ∷ ss) = keep_cases (λ us. length us ≤ suc (length ss)) (other p) s ss (λ y. omega (arith, length-keep ss)) (λ n. omega (arith, length-keep ss))

-- a full list has no word 0
full_words : (rs : List Route) (k : ℕ) → AllRoutes rs → k ≡ 0 → no_zero (map word_of rs ++ replicate k 0) ≡ true
unfolding no_zero
full_words [] k all e = ap (λ (n : ℕ). no_zero (zeros n)) e
full_words (r ∷ rs) k all e =
    rw (stops (eqb? (word_of r) 0) (some_route r (all r (here refl)))) (full_words rs k (λ s i. all s (there i)) e)

-- so a word that is 0 means room for one more
one_more : {t : Prefix} {rs : List Route} {m : Lent} → Inv t rs m → no_zero m.rules ≡ false → length rs < length m.rules
unfolding words_of
one_more {t} {rs} {m} I e =
    by_lt (length rs) (length m.rules) (λ h. h) (λ h.
    absurd (true≢false (sym (ap no_zero I.words ∙ full_words rs (length m.rules - length rs) I.list.all (omega arith)) ∙ e)))

-- ---- what the rule words stand for

pub live-routes : {t : Prefix} {rs : List Route} {m : Lent} → Inv t rs m → routes m.rules ≡ rs
live-routes {t} {rs} {m} I = ap routes I.words ∙ routes-words (length m.rules) rs I.list.all

-- ---- each accepted change keeps the invariant

-- with the list that it makes: the rule words are those of that list, and what is left is the tables
module _ (t : Prefix) (c : Change) (rs : List Route) (m : Lent) (I : Inv t rs m) where
  changed_inv : Listing t (applied c rs) → length (applied c rs) ≤ length m.rules
      → TablesOf t (applied c rs) (retabled t c (applied c rs) m.tables) → Inv t (applied c rs) (effect t c m)
  unfolding effect
  changed_inv L room H =
      subst (λ (x : List Route). Inv t (applied c rs) (record { tables = retabled t c (applied c x) m.tables; rules = words_of (length m.rules) (applied c x) }))
      (sym (live-routes I))
      (let n = length-words_of (length m.rules) (applied c rs) room in
      record {
        list = L;
        few_rules = omega (arith, n, I.few_rules);
        room = omega (arith, n);
        words = ap (λ (k : ℕ). words_of k (applied c rs)) (sym n);
        tables = H;
      })

-- a route that may be put in
pub record Puts (t : Prefix) (r : Route) (rs : List Route) (m : Lent) : Type 0 where
  pub route : IsRoute r
  pub inside : Encloses t r.prefix
  pub room : ¬ ((is_live r.prefix rs ≡ false) × (no_zero m.rules ≡ true))
  pub free : ¬ ((needs_segment t r.prefix m.tables ≡ true) × (no_zero m.tables.owners ≡ true))

-- a prefix that may be taken out
pub record Takes (t p : Prefix) (rs : List Route) : Type 0 where
  pub formed : WellFormed p
  pub inside : Encloses t p
  pub lives : IsLive p rs

-- a change that may be made
abbrev pub Makes : Prefix → Change → List Route → Lent → Type 0
Makes t (puts r) rs m = Puts t r rs m
Makes t (takes p) rs m = Takes t p rs

module _ (t : Prefix) (r : Route) (rs : List Route) (m : Lent) (I : Inv t rs m) (A : Puts t r rs m) where
  with_listing : Listing t (with_route r rs)
  with_listing = record {
    all = with_routes r rs I.list.order A.route I.list.all;
    order = with_ascending r rs I.list.order;
    inside = λ s i. elim (with_mem r rs I.list.order i) [ inl q ↦ subst (λ (x : Route). Encloses t x.prefix) (sym q) A.inside | inr o ↦ I.list.inside s o.0 ];
  }

  with_room : length (with_route r rs) ≤ length m.rules
  with_room = go (is_live r.prefix rs) refl (no_zero m.rules) refl
    where
      go : (x : Bool) → is_live r.prefix rs ≡ x → (y : Bool) → no_zero m.rules ≡ y → length (with_route r rs) ≤ length m.rules
      go true p y q = omega (arith, length-live r rs I.list.order p, I.room)
      go false p true q = absurd (A.room (p, q))
      go false p false q = omega (arith, length_with r rs, one_more I q)

  put_tables : TablesOf t (with_route r rs) (retabled t (puts r) (with_route r rs) m.tables)
  unfolding retabled
  put_tables = announced_tables t r rs m.tables I.tables (territory I) A.route A.inside I.list.all A.free with_listing.all

module _ (t p : Prefix) (rs : List Route) (m : Lent) (I : Inv t rs m) (A : Takes t p rs) where
  without_listing : Listing t (without p rs)
  without_listing = record {
    all = without-routes p rs I.list.all;
    order = without-ascending p rs I.list.order;
    inside = λ s i. I.list.inside s (without_mem p rs i).0;
  }

  taken_tables : TablesOf t (without p rs) (retabled t (takes p) (without p rs) m.tables)
  unfolding retabled
  taken_tables =
      let L = A.lives in
      withdrawn_tables t p rs m.tables I.tables (territory I) A.formed A.inside I.list.all I.list.order L.0 L.1 L.2

pub keeps : (t : Prefix) (c : Change) (rs : List Route) (m : Lent) → Inv t rs m → Makes t c rs m → Inv t (applied c rs) (effect t c m)
keeps t (puts r) rs m I A = changed_inv t (puts r) rs m I (with_listing t r rs m I A) (with_room t r rs m I A) (put_tables t r rs m I A)
keeps t (takes p) rs m I A =
    changed_inv t (takes p) rs m I (without_listing t p rs m I A) (omega (arith, length_without p rs, I.room)) (taken_tables t p rs m I A)

-- ---- no change makes more owner words, or fewer

opened_owners : (t p : Prefix) (T : Tables) → length (opened_for t p T).owners ≡ length T.owners
unfolding opened_for opened_at
opened_owners t p T = go (needs_segment t p T)
  where
    go : (x : Bool) → length (cond x (opened_at (block_of t p.address) (lowest_free T.owners) T) T).owners ≡ length T.owners
    go true = length-set T.owners (lowest_free T.owners) (block_of t p.address + 1)
    go false = refl

closed_owners : (t p : Prefix) (left : List Route) (T : Tables) → length (closed_for t p left T).owners ≡ length T.owners
unfolding closed_for closed_at
closed_owners t p left T = go (closes t p left)
  where
    b : ℕ
    b = block_of t p.address

    s : ℕ
    s = segment_of (get_or T.first b 0)

    go : (x : Bool) → length (cond x (closed_at b s (cell_of (best left (block_start t b))) T) T).owners ≡ length T.owners
    go true = length-set T.owners s 0
    go false = refl

pub retabled_owners : (t : Prefix) (c : Change) (rs : List Route) (T : Tables) → length (retabled t c rs T).owners ≡ length T.owners
unfolding retabled repainted
retabled_owners t (puts r) rs T = opened_owners t r.prefix T
retabled_owners t (takes p) rs T = closed_owners t p rs (repainted t p (unpaint_cell p.length rs) T)
