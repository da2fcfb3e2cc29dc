-- Rule words: live ones first, in ascending order of (address, length), each prefix at most once; every word after them 0. Contracts
-- speak of the list of routes that they stand for, so that the layout of a word can change behind it. Assumes nothing.
use Rattle.std.specs.Prelude.{◌≡◌, ℕ, ◌-◌, ◌≤◌, Bool, true, false, cond, ◌&&◌, ◌||◌, eqb, length, get_or, drop, replicate}
use mathlib.Core.List.{List, [], ◌∷◌, ◌++◌, map, Memᴰ as Mem}
use Rattle.prefix.specs.declared.Prefix.{Prefix}
use Rattle.prefix.specs.Prefixes.{before, same_prefix}
use Rattle.prefix.specs.declared.Route.{Route}
use Rattle.prefix.specs.Routes.{Ascending}
use Rattle.rules.specs.Words.{prefix_of, route_of, word_of, is_rule, IsRule}

-- the live words: those before the first 0
unfoldable pub live_words : List ℕ → List ℕ
live_words [] = []
live_words (w ∷ ws) = cond (eqb w 0) [] (w ∷ live_words ws)

-- the routes that the words stand for
unfoldable pub routes : List ℕ → List Route
routes ws = map route_of (live_words ws)

-- n words: those of the routes, and 0 after them
unfoldable pub words_of : ℕ → List Route → List ℕ
words_of n rs = map word_of rs ++ replicate (n - length rs) 0

-- p is the prefix of a live route
unfoldable pub is_live : Prefix → List Route → Bool
is_live p [] = false
is_live p (r ∷ rs) = same_prefix r.prefix p || is_live p rs

-- ---- the form, as a test

unfoldable pub every : (ℕ → Bool) → List ℕ → Bool
every test [] = true
every test (w ∷ ws) = test w && every test ws

-- the prefix of each word comes before those of all after it
unfoldable pub ascending : List ℕ → Bool
ascending [] = true
ascending (w ∷ ws) = every (λ v. before (prefix_of w) (prefix_of v)) ws && ascending ws

-- (A word that is no rule is damage, so what `ascending` says of a length above 32 never decides.)
unfoldable pub formed : Prefix → List ℕ → Bool
formed t ws = every (is_rule t) (live_words ws) && ascending (live_words ws) && every (eqb 0) (drop (length (live_words ws)) ws)

-- and as the statement that it decides
pub record Formed (t : Prefix) (ws : List ℕ) : Type 0 where
  pub rules : (w : ℕ) → Mem w (live_words ws) → IsRule t w
  pub order : Ascending (routes ws)
  pub rest : (i : ℕ) → length (live_words ws) ≤ i → get_or ws i 0 ≡ 0
