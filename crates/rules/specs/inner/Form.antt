-- What the one pass over the words answers: how many rules from the front are in order, and the live words. Assumes nothing.
use Rattle.std.specs.Prelude.{◌≡◌, ℕ, suc, ◌≤◌, ◌<◌, true, List, length, get_or}
use Rattle.prefix.specs.declared.Prefix.{Prefix}
use Rattle.rules.specs.Words.{IsRule}
use Rattle.rules.specs.Rules.{live_words, formed}
use Rattle.rules.specs.inner.Places.{key_at}

-- the first n words are rules of the territory, and their keys ascend
pub record InOrder (t : Prefix) (ws : List ℕ) (n : ℕ) : Type 0 where
  pub within : n ≤ length ws
  pub rules : (i : ℕ) → i < n → IsRule t (get_or ws i 0)
  pub order : (i j : ℕ) → i < j → j < n → key_at ws i < key_at ws j

-- and n is the most for which this holds
pub record CountIs (t : Prefix) (ws : List ℕ) (n : ℕ) : Type 0 where
  pub in_order : InOrder t ws n
  pub most : InOrder t ws (suc n) → ⊥

-- what the form test hands on where the words have the form: the live ones
pub record LiveFront (t : Prefix) (ws vs : List ℕ) : Type 0 where
  pub test : formed t ws ≡ true
  pub front : vs ≡ live_words ws
