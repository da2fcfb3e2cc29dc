-- What clearing the words and booking a flow answer and leave, for any numbers, any tables and any words. Assumes nothing.
use Rattle.std.specs.Prelude.{cond, List, ℕ, ◌+◌, leb, eqb, length, get_or, set, replicate}
use Rattle.prefix.specs.declared.Prefix.{Prefix}
use Rattle.lookup.specs.Lookup.{Answer, look_up}
use Rattle.octets.specs.Words.{word_count, most}

-- what a call answers, and the words that it leaves
pub record Outcome : Type 0 where
  pub code : ℕ
  pub words : List ℕ

-- refused: the number, and every word as it was
abbrev pub refused : ℕ → List ℕ → Outcome
refused code words = record { code = code; words = words }

unfoldable pub clear_octets : List ℕ → Outcome
clear_octets words = cond (eqb (length words) word_count) (record { code = 0; words = replicate word_count 0 }) (refused 1 words)

-- an amount added to the word of a hop; 30 where that would pass 2 ^ 53
unfoldable pub add_to : ℕ → ℕ → List ℕ → Outcome
add_to hop amount words =
    cond (leb (get_or words hop 0 + amount) most)
    (record { code = 0; words = set words hop (get_or words hop 0 + amount) })
    (refused 30 words)

-- the refusals of a record are those of look up except 8, "no route"
unfoldable pub refusal_of : ℕ → ℕ
refusal_of code = cond (eqb code 8) 0 code

-- an amount booked by an answer of look up. Every refusal of look up has hop 0, so "no route" goes to word 0
unfoldable pub enter : Answer → ℕ → List ℕ → Outcome
enter answer amount words =
    cond (eqb (refusal_of answer.code) 0) (add_to answer.hop amount words) (refused (refusal_of answer.code) words)

-- a flow: an address and its octets
unfoldable pub book : List ℕ → List ℕ → Prefix → ℕ → ℕ → List ℕ → Outcome
book first long t address amount words =
    cond (eqb (length words) word_count) (enter (look_up first long t address) amount words) (refused 1 words)
