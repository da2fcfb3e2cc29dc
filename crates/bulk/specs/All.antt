-- Many addresses in one call: each is answered as look up answers it, or the call is refused and writes nothing. Assumes nothing.
use Rattle.std.specs.Prelude.{ℕ, cond, ◌&&◌, List, map, eqb, length}
use Rattle.prefix.specs.declared.Prefix.{Prefix}
use Rattle.cells.specs.Memory.{lent_to_read}
use Rattle.lookup.specs.Lookup.{look_up, packed}

-- what a call answers, and what it leaves in the room for the answers
pub record Outcome : Type 0 where
  pub code : ℕ
  pub answers : List ℕ

-- the answer of look up to one address, as one number
abbrev pub answer_of : List ℕ → List ℕ → Prefix → ℕ → ℕ
answer_of first long t address = packed (look_up first long t address)

-- 0 and an answer for each address; or 1, where what is lent is not right or the addresses and the room for answers differ in number
unfoldable pub all_of : List ℕ → List ℕ → Prefix → List ℕ → List ℕ → Outcome
all_of first long t addresses answers =
    cond (lent_to_read (length first) (length long) t && eqb (length addresses) (length answers))
    (record { code = 0; answers = map (answer_of first long t) addresses })
    (record { code = 1; answers = answers })
