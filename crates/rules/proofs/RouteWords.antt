-- The words of a list of routes, with 0 after them: they have the form, and `routes` gives the list back. Assumes nothing.
use mathlib.Core.Path.{◌≡◌, refl, sym, ap, ap₂, subst, ◌∙◌}
use mathlib.Core.List.Memᴰ
use mathlib.Core.List.Memᴰ.{head as here}
use mathlib.Core.List.Memᴰ.{tail as there}
use mathlib.Core.List.{List, [], ◌∷◌, ◌++◌, map, Memᴰ as Mem}
use Prim.Native.Nat.{ℕ, zero, suc, ◌+◌, ◌-◌, ◌≤◌}
use native.Mathlib.Omega.{arith}
use lib.ListN.{length, get_or, drop, replicate, length-append, length-map, length-drop, length-replicate}
use lib.Seq.{get_or-drop, ext_get_or}
use Rattle.prefix.specs.declared.Prefix.{Prefix}
use Rattle.prefix.specs.Prefixes.{Encloses}
use Rattle.prefix.specs.declared.Route.{Route}
use Rattle.prefix.specs.Routes.{IsRoute, AllRoutes, Ascending}
use Rattle.rules.specs.Words.{route_of, word_of, IsRule}
use Rattle.rules.specs.Rules.{live_words, routes, words_of, Formed}
use Rattle.rules.proofs.Words.{word_route, route_word, some_route}
use Rattle.rules.proofs.LiveWords.{live_some, live_none}
use Rattle.rules.proofs.FormTests.{ZeroFrom}

-- ---- words and routes, list by list

pub word_routes : (ws : List ℕ) → map word_of (map route_of ws) ≡ ws
word_routes [] = refl
word_routes (w ∷ ws) = ap₂ ◌∷◌ (word_route w) (word_routes ws)

route_words : (rs : List Route) → AllRoutes rs → map route_of (map word_of rs) ≡ rs
route_words [] all = refl
route_words (r ∷ rs) all = ap₂ ◌∷◌ (route_word r (all r (here refl))) (route_words rs (λ s m. all s (there m)))

live-words : (rs : List Route) (k : ℕ) → AllRoutes rs → live_words (map word_of rs ++ replicate k 0) ≡ map word_of rs
live-words [] k all = live_none k
live-words (r ∷ rs) k all =
    live_some (word_of r) (map word_of rs ++ replicate k 0) (some_route r (all r (here refl)))
    ∙ ap (λ (vs : List ℕ). word_of r ∷ vs) (live-words rs k (λ s m. all s (there m)))

-- ---- `words_of`

pub routes-words : (n : ℕ) (rs : List Route) → AllRoutes rs → routes (words_of n rs) ≡ rs
unfolding routes words_of
routes-words n rs all = ap (map route_of) (live-words rs (n - length rs) all) ∙ route_words rs all

pub length-words_of : (n : ℕ) (rs : List Route) → length rs ≤ n → length (words_of n rs) ≡ n
unfolding words_of
length-words_of n rs h = simp (length-append, length-map, length-replicate) (omega arith)

get_or-zeros : (k i : ℕ) → ◌≡◌ {A = ℕ} (get_or (replicate k 0) i 0) 0
get_or-zeros zero i = refl
get_or-zeros (suc k) zero = refl
get_or-zeros (suc k) (suc i) = get_or-zeros k i

zero_after : (rs : List Route) (k i : ℕ) → length rs ≤ i → get_or (map word_of rs ++ replicate k 0) i 0 ≡ 0
zero_after [] k i h = get_or-zeros k i
zero_after (r ∷ rs) k zero h = absurd (omega arith)
zero_after (r ∷ rs) k (suc i) h = zero_after rs k i (omega arith)

pub words-formed : (t : Prefix) (n : ℕ) (rs : List Route) → AllRoutes rs → Ascending rs → ((r : Route) → Mem r rs → Encloses t r.prefix)
    → Formed t (words_of n rs)
unfolding words_of
words-formed t n rs all o inside =
    let lives : live_words (words_of n rs) ≡ map word_of rs = live-words rs (n - length rs) all in
    record {
      rules = λ w m. is_rule_lem w (Memᴰ.of_map word_of rs (subst (Mem w) lives m));
      order = subst Ascending (sym (routes-words n rs all)) o;
      rest = λ i h. zero_after rs (n - length rs) i (omega (arith, ap length lives, length-map rs word_of));
    }
  where
    is_rule_lem : (w : ℕ) → (r : Route) × (Mem r rs) × (word_of r ≡ w) → IsRule t w
    is_rule_lem w (r, m, e) =
        let same : route_of w ≡ r = ap route_of (sym e) ∙ route_word r (all r m) in
        record { route = subst IsRoute (sym same) (all r m); inside = subst (λ (s : Route). Encloses t s.prefix) (sym same) (inside r m) }

-- ---- words that were tested

pub zeros-drop : (ws : List ℕ) (n : ℕ) → ZeroFrom ws n → drop n ws ≡ replicate (length ws - n) 0
zeros-drop ws n z =
    ext_get_or 0 (drop n ws) (replicate (length ws - n) 0) (length-drop n ws ∙ sym (length-replicate (length ws - n) 0))
    (λ i h. get_or-drop n ws i 0 ∙ z (n + i) (omega arith) ∙ sym (get_or-zeros (length ws - n) i))
