-- The count of the rules in order from the front: what the loop has shown so far, and that the count with the test of the rest is the
-- test of the form. Assumes nothing.
use mathlib.Core.Path.{◌≡◌, sym, ap, subst, ◌∙◌}
use mathlib.Core.Bool.{true, false, ◌&&◌}
use mathlib.Core.List.{List}
use Prim.Native.Nat.{ℕ, ◌+◌, ◌≤◌, ◌<◌}
use native.Mathlib.Omega.{arith}
use lib.Dec.{leb, eqb}
use lib.ListN.{length, get_or, drop, take}
use lib.Seq.{length-take-le, get_or-take}
use borrow.Author.Count.{below_more}
use Rattle.ground.proofs.Cases.{by_lt}
use Rattle.ground.proofs.Tests.{Decides, leb?, and?, iff?, says, same_test}
use Rattle.ground.proofs.Members.{mem_index, index_mem}
use Rattle.prefix.specs.declared.Prefix.{Prefix}
use Rattle.prefix.specs.Routes.{IsRoute}
use Rattle.rules.specs.Words.{route_of, is_rule, IsRule}
use Rattle.rules.specs.Rules.{live_words, every, formed, Formed}
use Rattle.rules.specs.inner.Places.{prefix_at, key_at, Ordered}
use Rattle.rules.specs.inner.Form.{InOrder, CountIs, LiveFront}
use Rattle.rules.proofs.Words.{some_word, word_order, is_rule?}
use Rattle.rules.proofs.LiveWords.{live_at, live_first, live-within}
use Rattle.rules.proofs.Indices.{rise_routes, listed_order}
use Rattle.rules.proofs.FormTests.{ZeroFrom, zeros?, formed?, formed_listed}

-- ---- the loop: the first i words are in order, and `low` is just above their keys

pub record OrderedTo (t : Prefix) (ws : List ℕ) (i low : ℕ) : Type 0 where
  pub in_order : InOrder t ws i
  pub above : (k : ℕ) → k < i → key_at ws k < low
  pub least : (x : ℕ) → x < low → (j : ℕ) × (j < i) × (x ≤ key_at ws j)

pub ordered_none : (t : Prefix) (ws : List ℕ) → OrderedTo t ws 0 0
ordered_none t ws = record {
  in_order = record { within = omega arith; rules = λ i l. absurd (omega arith); order = λ i j l h. absurd (omega arith) };
  above = λ k l. absurd (omega arith);
  least = λ x l. absurd (omega arith);
}

module _ {t : Prefix} {ws : List ℕ} {i low : ℕ} (c : OrderedTo t ws i low) where
  -- what `is_next` answers of the word at i
  pub next? : Decides ((low ≤ key_at ws i) × (IsRule t (get_or ws i 0))) (leb low (key_at ws i) && is_rule t (get_or ws i 0))
  next? = and? (leb? low (key_at ws i)) (is_rule? t (get_or ws i 0))

  pub ordered_more : {x : ℕ} → i < length ws → (low ≤ key_at ws i) × (IsRule t (get_or ws i 0)) → x ≡ key_at ws i + 1 → OrderedTo t ws (i + 1) x
  ordered_more {x} l h e = record {
    in_order = record {
      within = omega arith;
      rules = below_more (λ (k : ℕ). IsRule t (get_or ws k 0)) i c.in_order.rules h.1;
      order = λ p q pq ql.
          below_more (λ (q : ℕ). p < q → key_at ws p < key_at ws q) i
          (λ q ql pq. c.in_order.order p q pq ql)
          (λ pq. omega (arith, c.above p pq, h.0)) q ql pq;
    };
    above = below_more (λ (k : ℕ). key_at ws k < x) i (λ k l. omega (arith, c.above k l, h.0)) (omega arith);
    least = λ y l. (i, omega arith, omega arith);
  }

  -- the word at i is no rule, or its key is not above those before
  pub counted_stop : ((low ≤ key_at ws i) × (IsRule t (get_or ws i 0)) → ⊥) → CountIs t ws i
  counted_stop n = record {
    in_order = c.in_order;
    most = λ o.
        by_lt (key_at ws i) low
        (λ h. let w = c.least (key_at ws i) h in omega (arith, w.2, o.order w.0 i w.1 (omega arith)))
        (λ h. n (h, o.rules i (omega arith)));
  }

  pub counted_all : length ws ≤ i → CountIs t ws i
  counted_all h = record { in_order = c.in_order; most = λ o. omega (arith, o.within) }

-- ---- the form

module _ {t : Prefix} {ws : List ℕ} {n : ℕ} (c : CountIs t ws n) where
  -- where all words from n on are 0, the first n are the live ones
  live_counted : ZeroFrom ws n → live_words ws ≡ take n ws
  live_counted z =
      live_first ws n c.in_order.within (λ i l e. some_word (get_or ws i 0) (c.in_order.rules i l).route e) (z n (omega arith))

  length_counted : ZeroFrom ws n → n ≡ length (live_words ws)
  length_counted z = sym (ap length (live_counted z) ∙ length-take-le n ws c.in_order.within)

  counted_formed : ZeroFrom ws n → Formed t ws
  counted_formed z =
      let count : n ≡ length (live_words ws) = length_counted z in
      record {
        rules = λ w m.
            let i = mem_index 0 (live_words ws) m in
            subst (IsRule t) (sym (live_at ws i.0 i.1) ∙ i.2) (c.in_order.rules i.0 (omega (arith, i.1)));
        order = rise_routes ws (λ i j l h.
            let short : (k : ℕ) → k < n → (prefix_at ws k).length ≤ 32 = λ k h. (c.in_order.rules k h).route.formed.short in
            (word_order (prefix_at ws i) (prefix_at ws j) (short i (omega arith)) (short j (omega arith))).0
            (c.in_order.order i j l (omega arith)));
        rest = λ i l. z i (omega arith);
      }

  -- more words of a list of the form would be in order too
  formed_counted : Formed t ws → ZeroFrom ws n
  formed_counted f i l =
      by_lt n (length (live_words ws))
      (λ h.
      let within = live-within ws in
      absurd (c.most (record {
        within = omega arith;
        rules = λ k b. subst (IsRule t) (live_at ws k (omega arith)) (f.rules (get_or (live_words ws) k 0) (index_mem 0 (live_words ws) k (omega arith)));
        order = λ j k jk b. listed_order (formed_listed f) j k jk (omega arith);
      })))
      (λ h. f.rest i (omega arith))

  -- where the test of the words from n on fails, so does that of the form; where it passes, the first n are the live ones
  rest_is : every (eqb 0) (drop n ws) ≡ formed t ws
  rest_is = same_test (zeros? ws n) (iff? (formed? t ws) formed_counted counted_formed)

  pub form_fails : every (eqb 0) (drop n ws) ≡ false → formed t ws ≡ false
  form_fails e = sym rest_is ∙ e

  pub form_holds : every (eqb 0) (drop n ws) ≡ true → LiveFront t ws (take n ws)
  form_holds e = record { test = sym rest_is ∙ e; front = sym (live_counted (says (zeros? ws n) e)) }

  pub front_ordered : Ordered (take n ws)
  front_ordered =
      let size : length (take n ws) ≡ n = length-take-le n ws c.in_order.within in
      record {
        rules = λ i l. subst (λ (w : ℕ). IsRoute (route_of w)) (sym (get_or-take n ws i 0 (omega arith))) (c.in_order.rules i (omega arith)).route;
        order = λ i j ij l.
            rw (get_or-take n ws i 0 (omega arith), get_or-take n ws j 0 (omega arith)) (c.in_order.order i j ij (omega arith));
      }
