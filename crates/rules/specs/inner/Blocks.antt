-- What the questions about blocks answer: where the rules of a block stand in the list, and whether one of them opens it. Assumes nothing.
use Rattle.std.specs.Prelude.{◌≡◌, ℕ, ◌+◌, ◌*◌, ◌≤◌, ◌<◌, Bool, List}
use Rattle.prefix.specs.Geometry.{block_size}
use Rattle.prefix.specs.Price.{is_open}
use Rattle.rules.specs.Rules.{routes}
use Rattle.rules.specs.inner.Places.{prefix_at}

-- of the n live rules, those before `at` have an address below a, and those from `at` on have not
pub record CursorAt (ws : List ℕ) (n a at : ℕ) : Type 0 where
  pub within : at ≤ n
  pub below : (i : ℕ) → i < at → (prefix_at ws i).address < a
  pub above : (i : ℕ) → at ≤ i → i < n → a ≤ (prefix_at ws i).address

-- from a on, no rule's address lies in the next k blocks, at most `left`
pub record StretchIs (ws : List ℕ) (n at a left k : ℕ) : Type 0 where
  pub within : k ≤ left
  pub cursor : CursorAt ws n (a + block_size * k) at

-- past the rules of the block that starts at a stands `next`, and open_now says whether the block is open
pub record PassedIs (ws : List ℕ) (n a next : ℕ) (open_now : Bool) : Type 0 where
  pub cursor : CursorAt ws n (a + block_size) next
  pub opened : open_now ≡ is_open (routes ws) a
