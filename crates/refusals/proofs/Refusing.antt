-- The tests of an update in their order: at which number they stop, and what is known where they do not. Assumes nothing.
use mathlib.Core.Path.{◌≡◌, refl, sym, ap, ap₂, subst, ◌∙◌}
use mathlib.Core.Bool.{Bool, true, false, cond, not, ◌&&◌, true≢false, false≢true}
use Prim.Native.Nat.{ℕ, ◌≤◌, ◌<◌}
use native.Mathlib.Omega.{arith}
use lib.Dec.{eqb}
use lib.ListN.{length, get_or}
use borrow.Author.Tests.{not-false}
use Rattle.ground.proofs.Tests.{eqb?, passes, stops, says, if_so, cond_on, cond_off}
use Rattle.ground.proofs.Cases.{by_lt}
use Rattle.prefix.specs.declared.Prefix.{Prefix}
use Rattle.prefix.specs.Prefixes.{encloses, WellFormed, Encloses}
use Rattle.prefix.specs.Routes.{Change, puts, takes, named, is_change}
use Rattle.prefix.specs.Price.{is_open}
use Rattle.prefix.specs.Geometry.{width, block_start, block_of}
use Rattle.prefix.proofs.Prefixes.{well_formed?, encloses?}
use Rattle.prefix.proofs.Best.{is_route?}
use Rattle.prefix.proofs.Blocks.{Opens, opened?}
use Rattle.prefix.proofs.Spans.{some_block, opens-own}
use Rattle.cells.specs.Cells.{pointer_bit}
use Rattle.cells.specs.Memory.{Tables, Lent, is_lent, IsLent, no_zero, lowest_free, needs_segment}
use Rattle.cells.proofs.Lending.{is_lent?}
use Rattle.cells.proofs.FreeSegments.{needs_segment?, position_free}
use Rattle.rules.specs.Rules.{routes, is_live}
use Rattle.rules.proofs.Indices.{is_live?}
use Rattle.ground.specs.declared.refusal.Refusal.{Refusal}
use Rattle.ground.specs.Refusals.{number as number_of}
use Rattle.ground.proofs.Refusals.{number_some}
use mathlib.Core.List.{List}
use Rattle.std.specs.List.{position}
use Rattle.std.proofs.Common.{Option, None, Some, Result, Ok, Err, is_ok}
use Rattle.refusals.specs.declared.codes.Checked.{Checked}
use Rattle.damage.specs.Damage.{undamaged}
use Rattle.refusals.specs.Codes.{Call, change, tested, unless_live, unless_room, own, code}
use Rattle.refusals.specs.inner.Checks.{Learnt, Told, opens_for, unless_damaged, never, Asked}
use Rattle.refusals.proofs.FreeWords.{all_live}
use Rattle.damage.proofs.Soundness.{BlockSound, Undamaged, undamaged?}

-- ---- what a call knows where its number is 0

-- what refusals 1 to 4 let pass
pub record Admitted (t : Prefix) (c : Change) (m : Lent) : Type 0 where
  pub lent : IsLent t m
  pub numbers : is_change c ≡ true
  pub inside : Encloses t (named c)
  pub sound : Undamaged t (named c) m

-- what refusals 6 and 7 let pass: the prefix is live or a rule word is free, and a segment that is needed is there
pub record HasRoom (t p : Prefix) (m : Lent) : Type 0 where
  pub word : is_live p (routes m.rules) ≡ false → no_zero m.rules ≡ false
  pub segment : needs_segment t p m.tables ≡ true → no_zero m.tables.owners ≡ false

-- a number that a test picks before another is not picked where the answer is 0
not_picked : (b : Bool) {k n : ℕ} → (k ≡ 0 → ⊥) → cond b k n ≡ 0 → (b ≡ false) × (n ≡ 0)
not_picked true f z = absurd (f z)
not_picked false f z = (refl, z)

tested_0 : (t : Prefix) (c : Change) (m : Lent) (next : ℕ) → tested t c m next ≡ 0 → Admitted t c m × (next ≡ 0)
unfolding tested
tested_0 t c m next e =
    let w = not_picked (not (is_lent t m)) (λ z. omega arith) e in
    let x = not_picked (not (is_change c)) (λ z. omega arith) w.1 in
    let y = not_picked (not (encloses t (named c))) (λ z. omega arith) x.1 in
    let z = not_picked (not (undamaged t (named c) m)) (λ z. omega arith) y.1 in
    let lent = if_so (is_lent? t m) refl w.0 in
    (record { lent = lent; numbers = not-false _ x.0; inside = if_so (encloses? _ _) refl y.0; sound = if_so (undamaged? _ _ m) refl z.0 }, z.1)

pub admitted : (t : Prefix) (c : Call) (m : Lent) → code t c m ≡ 0 → Admitted t (change c) m × (own t c m ≡ 0)
unfolding code
admitted t c m e = tested_0 t (change c) m (own t c m) e

-- a withdrawal or a re-homing: the prefix is live
pub live_passed : (p : Prefix) (m : Lent) → unless_live p m ≡ 0 → is_live p (routes m.rules) ≡ true
unfolding unless_live
live_passed p m z = not-false _ (not_picked (not (is_live p (routes m.rules))) (λ e. omega arith) z).0

-- an announce
pub room_passed : (t p : Prefix) (m : Lent) → unless_room t p m ≡ 0 → HasRoom t p m
unfolding unless_room
room_passed t p m z =
    let word = not_picked (not (is_live p (routes m.rules)) && no_zero m.rules) (λ e. omega arith) z in
    let segment = not_picked (needs_segment t p m.tables && no_zero m.tables.owners) (λ e. omega arith) word.1 in
    record { word = λ e. second _ _ word.0 (ap not e); segment = λ e. second _ _ segment.0 e }
  where
    second : (x y : Bool) → x && y ≡ false → x ≡ true → y ≡ false
    second true y q e = q
    second false y q e = absurd (false≢true e)

-- the prefix of a change that refusal 2 lets pass is well formed
pub named-formed : (c : Change) → is_change c ≡ true → WellFormed (named c)
unfolding is_change
named-formed (puts r) e = (says (is_route? r) e).formed
named-formed (takes p) e = says (well_formed? p) e

-- a live prefix longer than 24 opens its block, so the block's cell is a pointer where nothing is damaged
module _ {t : Prefix} {c : Change} {m : Lent} (k : Admitted t c m) (l : is_live (named c) (routes m.rules) ≡ true) where
  pub live_points : width < (named c).length → pointer_bit ≤ get_or m.tables.first (block_of t (named c).address) 0
  live_points long =
      let p = named c in
      let b = block_of t p.address in
      let rs = routes m.rules in
      let L = says (is_live? p rs) l in
      let is_open : is_open rs (block_start t b) ≡ true = passes (opened? width rs (block_start t b))
      (L.0, L.1, subst (λ (q : Prefix). Opens width q (block_start t b)) (sym L.2) (opens-own t p k.lent.sized.territory k.inside long)) in
      let S : BlockSound t rs m.tables b = k.sound.blocks b (omega arith) (omega (arith, some_block p)) in
      by_lt (get_or m.tables.first b 0) pointer_bit (λ d. absurd (true≢false (sym is_open ∙ (S.other d).1))) (λ g. g)

  -- so it needs no segment
  pub live_needs_none : needs_segment t (named c) m.tables ≡ false
  live_needs_none = stops (needs_segment? t (named c) m.tables) (λ h. let g = live_points h.0 in omega (arith, h.1))

-- ---- the number, by what the tests answered

abbrev number : Bool → Bool → Bool → Bool → ℕ → ℕ
number a b c d next = cond (not a) 1 (cond (not b) 2 (cond (not c) 3 (cond (not d) 4 next)))

-- refusals 1 to 4 of a change of p, where `lets` says whether refusal 2 lets its numbers pass
pub by_tests : (t : Prefix) {c : Change} {p : Prefix} {lets : Bool} (m : Lent) → Asked c p lets → {x y z : Bool} → is_lent t m ≡ x → lets ≡ y
    → encloses t p ≡ z → cond (not x) 1 (cond (not y) 2 (cond (not z) 3 (unless_damaged t p m))) ≡ tested t c m 0
unfolding tested unless_damaged
by_tests t m a e f g =
    rw (← e, ← f, ← g) (ap₂ (λ (q : Prefix) (b : Bool). number (is_lent t m) b (encloses t q) (undamaged t q m) 0) (sym a.names) a.numbers)

pub by_damage : (t p : Prefix) (m : Lent) {x : Bool} → undamaged t p m ≡ x → cond (not x) 4 0 ≡ unless_damaged t p m
unfolding unless_damaged
by_damage t p m e = rw e

pub by_live : (p : Prefix) (m : Lent) {x : Bool} → is_live p (routes m.rules) ≡ x → cond (not x) 5 0 ≡ unless_live p m
unfolding unless_live
by_live p m e = rw e

pub by_room : (t p : Prefix) (m : Lent) {x y z : Bool} → not (is_live p (routes m.rules)) && no_zero m.rules ≡ x → needs_segment t p m.tables ≡ y
    → no_zero m.tables.owners ≡ z → cond x 6 (cond (y && z) 7 0) ≡ unless_room t p m
unfolding unless_room
by_room t p m e f g = rw (e, f, g)

-- where refusals 1 to 4 answer another number than 0, that is all, and else what follows is
after_4 : (t : Prefix) (c : Change) (m : Lent) (next : ℕ) → cond (eqb (tested t c m 0) 0) next (tested t c m 0) ≡ tested t c m next
unfolding tested
after_4 t c m next = go (is_lent t m) (is_change c) (encloses t (named c)) (undamaged t (named c) m)
  where
    go : (w x y z : Bool) → cond (eqb (number w x y z 0) 0) next (number w x y z 0) ≡ number w x y z next
    go true true true true = refl
    go true true true false = refl
    go true true false z = refl
    go true false y z = refl
    go false x y z = refl

-- ---- what an update is told

module _ {t p : Prefix} {m : Lent} where
  -- the refusal is that at which the tests stop
  pub refused_is : {answer : Lent → ℕ} {opening : Tables → Option ℕ} {e : Refusal} → number_of e ≡ answer m → Told t p answer opening m (Err e)
  refused_is {e = e} a = record { number = a; learnt = λ x q. cc }

  -- nothing refuses, and this is what the tests found
  pub accepted_is : {answer : Lent → ℕ} {opening : Tables → Option ℕ} {x : Checked} → 0 ≡ answer m → Learnt t p opening m x → Told t p answer opening m (Ok x)
  accepted_is {opening = opening} {x = x} a l = record { number = a; learnt = λ y q. let e : x ≡ y = cc in subst (Learnt t p opening m) e l }

  -- by another name
  pub told_as : {a b : Lent → ℕ} {x y : Tables → Option ℕ} {r : Result Checked Refusal} → Told t p a x m r → a m ≡ b m
      → ((k : Checked) → r ≡ Ok k → x m.tables ≡ y m.tables) → Told t p b y m r
  told_as k e f = record {
    number = k.number ∙ e;
    learnt = λ z q.
        let l = k.learnt z q in
        record { listed = l.listed; place = l.place; blocks = l.blocks; segment = l.segment ∙ f z q };
  }

-- no segment is opened where none is needed
pub opens_none : (t p : Prefix) (tables : Tables) → needs_segment t p tables ≡ false → never tables ≡ opens_for t p tables
unfolding opens_for
opens_none t p tables n = sym (ap (λ (x : Bool). cond x (Some (lowest_free tables.owners)) None) n)

pub opens_one : (t p : Prefix) (tables : Tables) → needs_segment t p tables ≡ true → Some (lowest_free tables.owners) ≡ opens_for t p tables
unfolding opens_for
opens_one t p tables n = sym (ap (λ (x : Bool). cond x (Some (lowest_free tables.owners)) None) n)

-- the search for a free segment finds none, or the lowest
none_picked : (b : Bool) (n : ℕ) → cond b None (Some n) ≡ None → b ≡ true
none_picked true n e = refl
none_picked false n e = cc

one_picked : (b : Bool) (n s : ℕ) → cond b None (Some n) ≡ Some s → (b ≡ false) × (n ≡ s)
one_picked true n s e = cc
one_picked false n s e = (refl, cc)

pub none_free : (ws : List ℕ) → position (λ w. eqb w 0) ws ≡ None → no_zero ws ≡ true
none_free ws e = none_picked (no_zero ws) (lowest_free ws) (sym (position_free ws) ∙ e)

pub one_free : (ws : List ℕ) {s : ℕ} → position (λ w. eqb w 0) ws ≡ Some s → (no_zero ws ≡ false) × (lowest_free ws ≡ s)
one_free ws e = one_picked (no_zero ws) (lowest_free ws) _ (sym (position_free ws) ∙ e)

-- x is what refusals 1 to 4 answered
module _ (c : Change) {t p : Prefix} {m : Lent} where
  -- a refusal stands
  pub stays : {e : Refusal} → Told t p (λ n. tested t c n 0) never m (Err e) → (next : Lent → ℕ) {opening : Tables → Option ℕ}
      → Told t p (λ n. tested t c n (next n)) opening m (Err e)
  stays {e} k next =
      refused_is (k.number ∙ sym (cond_off (next m) (tested t c m 0) (eqb? (tested t c m 0) 0) (λ z. number_not_0 (k.number ∙ z))) ∙ after_4 t c m (next m))
    where
      number_not_0 : number_of e ≡ 0 → ⊥
      number_not_0 z = cc (number_some e, z)

  module _ {x : Checked} (k : Told t p (λ n. tested t c n 0) never m (Ok x)) where
    pub goes_on_lem : {number next : ℕ} → number ≡ next → number ≡ tested t c m next
    goes_on_lem {next = next} e = e ∙ sym (cond_on next (tested t c m 0) (eqb? (tested t c m 0) 0) (sym k.number)) ∙ after_4 t c m next

    pub let_pass : Admitted t c m
    let_pass = (tested_0 t c m 0 (sym k.number)).0

    pub found : Learnt t p never m x
    found = k.learnt x refl

    -- no room, by the live rules and their number
    pub full : not (is_ok x.place) && eqb x.used (length m.rules) ≡ not (is_live p (routes m.rules)) && no_zero m.rules
    full = ap₂ (λ (a b : Bool). not a && b) found.place.says_live (all_live m.rules x.used found.listed)
