-- Booking joined to demand 2: with tables that a history of updates left, an accepted flow's octets go to the hop of the longest live prefix
-- that contains the address, and to word 0 exactly if none does; so over every account each word holds what was charged to it. Assumes nothing.
use mathlib.Core.Path.{◌≡◌, refl, sym, ap, ap₂, ◌∙◌}
use mathlib.Core.Bool.{Bool, true, false, cond, ◌&&◌}
use mathlib.Core.List.{List, [], ◌∷◌}
use Prim.Native.Nat.{ℕ, ◌+◌, ◌%◌}
use native.Mathlib.Omega.{arith}
use lib.Dec.{eqb}
use lib.ListN.{length, get_or}
use Rattle.ground.proofs.Tests.{Decides, holds, fails, eqb?, iff?, same_test, cond_on}
use Rattle.prefix.specs.declared.Prefix.{Prefix}
use Rattle.prefix.specs.Prefixes.{Contains}
use Rattle.prefix.specs.declared.Route.{Route}
use Rattle.prefix.specs.Routes.{best, IsBest, none, found, AllRoutes, Ascending}
use Rattle.prefix.proofs.Prefixes.{contains?}
use Rattle.prefix.proofs.Best.{best_is, longest_unique}
use Rattle.lookup.specs.Lookup.{Answer, refused, says_of, look_up}
use Rattle.cells.specs.Memory.{lent_to_read, Lent, IsLent}
use Rattle.prefix.specs.Geometry.{block_of, block_size}
use Rattle.history.specs.History.{History, memory, live, IsAnswer, routed, no_route}
use Rattle.history.proofs.Histories.{inv_history}
use Rattle.history.proofs.Demand2.{demand_2}
use Rattle.octets.specs.Words.{word_count}
use Rattle.octets.specs.Booking.{Outcome, refusal_of, enter, book}
use Rattle.octets.specs.Many.{book_each}
use Rattle.octets.specs.Bookings.{words_after, is_accepted, names, answer_to, octets_for, also_all}
use Rattle.lookup.proofs.Answers.{Told, told_look}
use Rattle.octets.proofs.Entering.{names?, Did, took, left, did_book, not_gained}
use Rattle.octets.proofs.Balancing.{balances, many_booked}
use Rattle.charges.specs.Charges.{Unrouted, IsCharged, to_hop, to_none, Charges, Account, cleared, updated, carried, updates, flow_of, flows, carried_all, words_now, word_by, charged_to, octets_to, Charged}

-- ---- the word of an answer

-- of an answer that is right, its hop is the word that the address is charged to
charged_by : {rs : List Route} {a : ℕ} {r : Answer} → IsAnswer rs a r → IsCharged rs a r.hop
charged_by (routed s l e) = to_hop s l (ap (λ (x : Answer). x.hop) e)
charged_by (no_route n e) = to_none n (ap (λ (x : Answer). x.hop) e)

-- and it refuses no record
not-refused : {rs : List Route} {a : ℕ} {r : Answer} → IsAnswer rs a r → refusal_of r.code ≡ 0
unfolding refusal_of
not-refused (routed s l e) = ap (λ (x : Answer). cond (eqb x.code 8) 0 x.code) e
not-refused (no_route n e) = ap (λ (x : Answer). cond (eqb x.code 8) 0 x.code) e

only_none : {rs : List Route} {a : ℕ} {r : Answer} → Told r → IsAnswer rs a r → r.hop ≡ 0 → Unrouted rs a
only_none T (routed s l e) z = absurd (omega (arith, T.route (ap (λ (x : Answer). x.code) e)))
only_none T (no_route n e) z = n

-- an address is charged to one word
pub one_charge : {rs : List Route} {a h k : ℕ} → AllRoutes rs → Ascending rs → IsCharged rs a h → IsCharged rs a k → h ≡ k
one_charge {rs} all o (to_hop r l e) (to_hop s m f) = e ∙ ap (λ (x : Route). x.hop) (longest_unique rs all o l m) ∙ sym f
one_charge all o (to_hop r l e) (to_none n f) = absurd (n r l.member l.contains)
one_charge all o (to_none n e) (to_hop s m f) = absurd (n s m.member m.contains)
one_charge all o (to_none n e) (to_none m f) = e ∙ sym f

-- the function tells that word
pub charged_to_lem : (rs : List Route) (a : ℕ) → IsCharged rs a (charged_to rs a)
charged_to_lem rs a = go (best_is rs a)
  where
    go : IsBest rs a (best rs a) → IsCharged rs a (charged_to rs a)
    go (none e n) = to_none n (ap word_by e)
    go (found r e l) = to_hop r l (ap word_by e)

-- ---- one flow

-- no record is accepted for an address outside the territory
inside : (first long : List ℕ) (t : Prefix) (a : ℕ) → refusal_of (look_up first long t a).code ≡ 0 → Contains t a
unfolding look_up refusal_of
inside first long t a = go (says_of long (a % block_size) (get_or first (block_of t a) 0)) (lent_to_read (length first) (length long) t) (contains? t a)
  where
    go : (x : Answer) (s : Bool) {u : Bool} → Decides (Contains t a) u
        → cond (eqb (cond s (cond u x (refused 3)) (refused 1)).code 8) 0 (cond s (cond u x (refused 3)) (refused 1)).code ≡ 0 → Contains t a
    go x s (holds c) e = c
    go x true (fails n) e = absurd (omega arith)
    go x false (fails n) e = absurd (omega arith)

module _ (t : Prefix) (m : Lent) (lent : IsLent t m) (h : History) (a : ℕ) where
  abbrev answer : Answer
  answer = look_up (memory t m h).tables.first (memory t m h).tables.long t a

  -- The sentence that finance relies on: with the tables that a history of updates left, a flow's octets go to the hop of the longest live
  -- prefix that contains its address, and to word 0 exactly if no live prefix does.
  pub charges : Contains t a → (amount : ℕ) (words : List ℕ) → length words ≡ word_count
      → Charges (live t m h) a amount words (book (memory t m h).tables.first (memory t m h).tables.long t a amount words)
  unfolding book enter
  charges c amount words long =
      let right = demand_2 t m lent h a c in
      let T = told_look (memory t m h).tables.first (memory t m h).tables.long t a in
      let I = inv_history t m lent h in
      record {
        hop = answer.hop;
        charged = charged_by right;
        only_unrouted = only_none T right;
        unrouted = λ n. one_charge I.list.all I.list.order (charged_by right) (to_none n refl);
        added = cond_on _ _ (eqb? (length words) word_count) long ∙ cond_on _ _ (eqb? (refusal_of answer.code) 0) (not-refused right);
      }

  -- where a record is not refused by look up, the word that its answer names is the one that the address is charged to
  names_charged : refusal_of answer.code ≡ 0 → (k : ℕ) → names answer k ≡ eqb (charged_to (live t m h) a) k
  names_charged z k =
      let right = demand_2 t m lent h a (inside (memory t m h).tables.first (memory t m h).tables.long t a z) in
      let I = inv_history t m lent h in
      let same : answer.hop ≡ charged_to (live t m h) a = one_charge I.list.all I.list.order (charged_by right) (charged_to_lem (live t m h) a) in
      same_test (names? answer (told_look (memory t m h).tables.first (memory t m h).tables.long t a) z k)
      (iff? (eqb? (charged_to (live t m h) a) k) (λ e. sym e ∙ sym same) (λ e. sym same ∙ sym e))

-- ---- every account

module _ (t : Prefix) (m : Lent) (lent : IsLent t m) (w : List ℕ) (long : length w ≡ word_count) where
  -- what an accepted flow adds to word k, by look up's answer and by what was live
  adds : (s : Account) (a amount k : ℕ)
      → let f = flow_of t m s a amount in
      cond (is_accepted w (flows t m s) f && names (answer_to f) k) amount 0
      ≡ cond (is_accepted w (flows t m s) f && eqb (charged_to (live t m (updates s)) a) k) amount 0
  unfolding is_accepted
  adds s a amount k =
      let f = flow_of t m s a amount in
      go (did_book f.first f.long t a amount (words_after w (flows t m s)))
    where
      go : {o : Outcome} → Did (look_up (memory t m (updates s)).tables.first (memory t m (updates s)).tables.long t a) amount (words_after w (flows t m s)) o
          → cond (eqb o.code 0 && names (look_up (memory t m (updates s)).tables.first (memory t m (updates s)).tables.long t a) k) amount 0
          ≡ cond (eqb o.code 0 && eqb (charged_to (live t m (updates s)) a) k) amount 0
      go (took z l) = ap (λ (x : Bool). cond x amount 0) (names_charged t m lent (updates s) a z k)
      go (left code n) = not_gained amount code n _ ∙ sym (not_gained amount code n _)

  named_is_charged : (s : Account) (k : ℕ) → octets_for w (flows t m s) k ≡ octets_to t m w s k
  unfolding flows octets_for octets_to
  named_is_charged cleared k = refl
  named_is_charged (updated s c) k = named_is_charged s k
  named_is_charged (carried s a amount) k = ap₂ ◌+◌ (named_is_charged s k) (adds s a amount k)

  -- Over every account: every word holds what was charged to it, and no accepted octet is lost.
  pub charged : (s : Account) → Charged t m w s
  charged s =
      let B = balances w long (flows t m s) in
      record { each_hop = λ h l. B.each_word h l ∙ named_is_charged s h; all_hops = B.all_words }

-- A call for many is so many flows of an account: what it leaves of the words is what they leave.
pub many_carried : (t : Prefix) (m : Lent) (w : List ℕ) (xs ns : List ℕ) (s : Account)
    → (book_each (memory t m (updates s)).tables.first (memory t m (updates s)).tables.long t xs ns (words_now t m w s)).words ≡ words_now t m w (carried_all s xs ns)
unfolding updates flows carried_all also_all
many_carried t m w xs ns s =
    many_booked w (memory t m (updates s)).tables.first (memory t m (updates s)).tables.long t xs ns (flows t m s) ∙ ap (words_after w) (same xs ns s)
  where
    same : (ys ks : List ℕ) (r : Account)
        → also_all (memory t m (updates r)).tables.first (memory t m (updates r)).tables.long t ys ks (flows t m r) ≡ flows t m (carried_all r ys ks)
    same [] ks r = refl
    same (a ∷ ys) [] r = refl
    same (a ∷ ys) (k ∷ ks) r = same ys ks (carried r a k)
