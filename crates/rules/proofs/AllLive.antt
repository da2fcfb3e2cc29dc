-- Words that are all live: a list that was tested, and the live ones of such a list are such words. Assumes nothing.
use mathlib.Core.Path.{◌≡◌, sym, ap, subst, ◌∙◌}
use mathlib.Core.Bool.{Bool}
use mathlib.Core.List.{List, map}
use Prim.Native.Nat.{ℕ, ◌≤◌, ◌<◌}
use native.Mathlib.Omega.{arith}
use lib.ListN.{length, get_or, take, get_or-eq_default}
use lib.Seq.{take-length, length-take-le, get_or-take}
use Rattle.prefix.specs.declared.Prefix.{Prefix}
use Rattle.prefix.specs.Routes.{IsRoute}
use Rattle.rules.specs.Words.{prefix_of, route_of, key_of}
use Rattle.rules.specs.Rules.{live_words, routes, is_live}
use Rattle.rules.specs.inner.Places.{Listed, Ordered, prefix_at, key_at, PlaceIs}
use Rattle.rules.proofs.Words.{some_word, word_order}
use Rattle.rules.proofs.LiveWords.{live_first, live-take}
use Rattle.rules.proofs.Indices.{routes_index, rise_routes, listed_within, listed_route, listed_order}

module _ {ws : List ℕ} (o : Ordered ws) where
  pub ordered_live : live_words ws ≡ ws
  ordered_live =
      live_first ws (length ws) (omega arith) (λ i l e. some_word (get_or ws i 0) (o.rules i l) e) (get_or-eq_default ws 0 (omega arith))
      ∙ take-length ws

  ordered_count : length ws ≡ length (live_words ws)
  ordered_count = sym (ap length ordered_live)

  pub ordered_listed : Listed ws (length ws)
  ordered_listed = record {
    count = ordered_count;
    all = λ r m. let i = routes_index ws m in subst IsRoute i.2 (o.rules i.0 (omega (arith, i.1, ordered_count)));
    order = rise_routes ws (λ i j l h.
        let short : (k : ℕ) → k < length ws → (prefix_at ws k).length ≤ 32 = λ k h. (o.rules k h).formed.short in
        (word_order (prefix_at ws i) (prefix_at ws j) (short i (omega (arith, ordered_count))) (short j (omega (arith, ordered_count)))).0
        (o.order i j l (omega (arith, ordered_count))));
    rest = λ i l. get_or-eq_default ws 0 l;
  }

-- the live words of a list that was tested
module _ {ws : List ℕ} {n : ℕ} (s : Listed ws n) where
  pub front_live : take n ws ≡ live_words ws
  front_live = ap (λ (k : ℕ). take k ws) s.count ∙ sym (live-take ws)

  pub front_listed : Ordered (take n ws)
  front_listed =
      let size : length (take n ws) ≡ n = length-take-le n ws (listed_within s) in
      record {
        rules = λ i l. subst (λ (w : ℕ). IsRoute (route_of w)) (sym (get_or-take n ws i 0 (omega arith))) (listed_route s i (omega arith));
        order = λ i j ij l. rw (get_or-take n ws i 0 (omega arith), get_or-take n ws j 0 (omega arith)) (listed_order s i j ij (omega arith));
      }

  pub front_routes : routes (take n ws) ≡ routes ws
  unfolding routes
  front_routes = ap (map route_of) (ordered_live front_listed ∙ front_live)

  -- a place among them is one in the list
  pub front_place : {p : Prefix} {at : ℕ} {found : Bool} → PlaceIs (take n ws) n p at found → PlaceIs ws n p at found
  front_place {p} q = record {
    position = record {
      within = q.position.within;
      below = λ i l. omega (arith, q.position.below i l, front_key i (omega (arith, q.position.within)));
      above = λ i l h. omega (arith, q.position.above i l h, front_key i h);
    };
    says_live = q.says_live ∙ ap (is_live p) front_routes;
  }
    where
      front_key : (i : ℕ) → i < n → key_at (take n ws) i ≡ key_at ws i
      front_key i l = ap (λ (w : ℕ). key_of (prefix_of w)) (get_or-take n ws i 0 l)
