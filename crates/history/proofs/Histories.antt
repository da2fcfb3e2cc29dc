-- Every history keeps the invariant, with the live list that is read off it. Assumes nothing.
use mathlib.Core.Path.{◌≡◌, sym, ap, subst, ◌∙◌}
use mathlib.Core.Bool.{Bool, cond, not, true≢false}
use mathlib.Core.List.{List, []}
use Prim.Native.Nat.{ℕ}
use lib.Dec.{eqb}
use Rattle.ground.proofs.Tests.{eqb?, passes, stops, says, cond_on}
use Rattle.prefix.specs.declared.Prefix.{Prefix}
use Rattle.prefix.specs.declared.Route.{Route}
use Rattle.prefix.specs.Routes.{is_change, applied}
use Rattle.prefix.proofs.Prefixes.{well_formed?}
use Rattle.prefix.proofs.Best.{is_route?}
use Rattle.rules.specs.Rules.{routes, is_live}
use Rattle.rules.proofs.Indices.{is_live?}
use Rattle.cells.specs.Memory.{Lent, IsLent}
use Rattle.cells.proofs.Lending.{is_lent?}
use Rattle.refusals.proofs.Refusing.{live_passed, room_passed, admitted, live_needs_none}
use Rattle.refusals.specs.Codes.{clear_code, announces, withdraws, re_homes, code, Call, change}
use Rattle.updates.specs.Effects.{cleared, effect}
use Rattle.updates.specs.Calls.{Outcome, outcome, clear, step}
use Rattle.updates.proofs.Outcomes.{by_outcome}
use Rattle.history.specs.History.{History, start, ◌then◌, memory, report, is_accepted, live}
use Rattle.history.proofs.Invariant.{Inv, inv_start, live-routes, Makes, keeps}

-- what a step leaves, by whether its number is 0
stepped : (t : Prefix) (rs us : List Route) (m n : Lent) (number : ℕ) → Inv t rs m → (number ≡ 0 → Inv t us n)
    → Inv t (cond (eqb (outcome number m n).report.code 0) us rs) (outcome number m n).lent
stepped t rs us m n number I keep =
    by_outcome (λ o. Inv t (cond (eqb o.report.code 0) us rs) o.lent) number m n keep (λ f. rw (stops (eqb? number 0) f) I)

-- ---- each call: what its acceptance says, where the invariant holds

module _ (t : Prefix) (rs : List Route) (m : Lent) (I : Inv t rs m) where
  -- p is live in the words as in the list
  in_list : (p : Prefix) → is_live p (routes m.rules) ≡ is_live p rs
  in_list p = ap (is_live p) (live-routes I)

  pub makes : (c : Call) → code t c m ≡ 0 → Makes t (change c) rs m
  unfolding is_change
  makes (announces r) e =
      let A = admitted t (announces r) m e in
      let room = room_passed t r.prefix m A.1 in
      record {
        route = says (is_route? r) A.0.numbers;
        inside = A.0.inside;
        room = λ b. true≢false (sym b.1 ∙ room.word (in_list r.prefix ∙ b.0));
        free = λ b. true≢false (sym b.1 ∙ room.segment b.0);
      }
  makes (withdraws p) e =
      let A = admitted t (withdraws p) m e in
      record {
        formed = says (well_formed? p) A.0.numbers;
        inside = A.0.inside;
        lives = says (is_live? p rs) (sym (in_list p) ∙ live_passed p m A.1);
      }
  makes (re_homes r) e =
      let A = admitted t (re_homes r) m e in
      let lives = sym (in_list r.prefix) ∙ live_passed r.prefix m A.1 in
      record {
        route = says (is_route? r) A.0.numbers;
        inside = A.0.inside;
        room = λ b. true≢false (sym lives ∙ b.0);
        free = λ b. true≢false (sym b.0 ∙ live_needs_none A.0 (live_passed r.prefix m A.1));
      }

-- clear, where what is lent has the right sizes
clear-lent : (t : Prefix) (m : Lent) → IsLent t m → (clear t m).lent ≡ cleared m
unfolding clear clear_code
clear-lent t m l =
    let zero : clear_code t m ≡ 0 = ap (λ (x : Bool). cond (not x) 1 0) (passes (is_lent? t m) l) in
    ap (λ (o : Outcome). o.lent) (cond_on _ _ (eqb? (clear_code t m) 0) zero)

pub inv_history : (t : Prefix) (m : Lent) → IsLent t m → (h : History) → Inv t (live t m h) (memory t m h)
unfolding memory live is_accepted report step
inv_history t m l start = subst (Inv t []) (sym (clear-lent t m l)) (inv_start t m l)
inv_history t m l (h then c) =
    let I = inv_history t m l h in
    let rs = live t m h in
    let n = memory t m h in
    stepped t rs (applied (change c) rs) n (effect t (change c) n) (code t c n) I (λ e. keeps t (change c) rs n I (makes t rs n I c e))
