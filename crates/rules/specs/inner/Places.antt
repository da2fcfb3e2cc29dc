-- Words that were tested, what the search among them answers, and what the moves of words leave. Assumes nothing.
use Rattle.std.specs.Prelude.{◌≡◌, ℕ, suc, ◌≤◌, ◌<◌, Bool, Result, Ok, Err, List, ◌∷◌, ◌++◌, length, get_or, take, drop}
use Rattle.std.proofs.Math.Seq.{slice}
use Rattle.prefix.specs.declared.Prefix.{Prefix}
use Rattle.prefix.specs.Routes.{IsRoute, AllRoutes, Ascending}
use Rattle.rules.specs.Words.{prefix_of, route_of, key_of}
use Rattle.rules.specs.Rules.{live_words, routes, is_live}

-- the words have the form, whatever the territory, and the first n are live
pub record Listed (ws : List ℕ) (n : ℕ) : Type 0 where
  pub count : n ≡ length (live_words ws)
  pub all : AllRoutes (routes ws)
  pub order : Ascending (routes ws)
  pub rest : (i : ℕ) → n ≤ i → get_or ws i 0 ≡ 0

-- the prefix of the word at an index, and its key
abbrev pub prefix_at : List ℕ → ℕ → Prefix
prefix_at ws i = prefix_of (get_or ws i 0)

abbrev pub key_at : List ℕ → ℕ → ℕ
key_at ws i = key_of (prefix_at ws i)

-- every word is a rule, and their keys ascend
pub record Ordered (ws : List ℕ) : Type 0 where
  pub rules : (i : ℕ) → i < length ws → IsRoute (route_of (get_or ws i 0))
  pub order : (i j : ℕ) → i < j → j < length ws → key_at ws i < key_at ws j

-- at is the first index below n whose key is at least k, or n
pub record PositionIs (ws : List ℕ) (n k at : ℕ) : Type 0 where
  pub within : at ≤ n
  pub below : (i : ℕ) → i < at → key_at ws i < k
  pub above : (i : ℕ) → at ≤ i → i < n → k ≤ key_at ws i

-- and low and high bracket it
pub record Bracket (ws : List ℕ) (n k low high : ℕ) : Type 0 where
  pub low_le : low ≤ high
  pub high_le : high ≤ n
  pub below : (i : ℕ) → i < low → key_at ws i < k
  pub above : (i : ℕ) → high ≤ i → i < n → k ≤ key_at ws i

-- the index that a search answers, whether it finds or not
abbrev pub index_of : Result ℕ ℕ → ℕ
index_of (Ok at) = at
index_of (Err at) = at

-- at is where the prefix p stands among the first n words, or would stand, and found says whether it is live
pub record PlaceIs (ws : List ℕ) (n : ℕ) (p : Prefix) (at : ℕ) (found : Bool) : Type 0 where
  pub position : PositionIs ws n (key_of p) at
  pub says_live : found ≡ is_live p (routes ws)

-- the words with one put in at index at of the first n: those from there on are one place further
abbrev pub inserted_at : List ℕ → ℕ → ℕ → ℕ → List ℕ
inserted_at ws n at word = take at ws ++ word ∷ (slice at n ws ++ drop (suc n) ws)

-- the words without that at index at of the first n: those after it are one place nearer, and the last place is 0
abbrev pub removed_at : List ℕ → ℕ → ℕ → List ℕ
removed_at ws n at = take at ws ++ (slice (suc at) n ws ++ 0 ∷ drop n ws)
