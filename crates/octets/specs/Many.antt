-- Many flows in one call: the same as booking them one after the other, or the call is refused and writes nothing. Assumes nothing.
use Rattle.std.specs.Prelude.{cond, ◌&&◌, List, [], ◌∷◌, ℕ, eqb, length}
use Rattle.prefix.specs.declared.Prefix.{Prefix}
use Rattle.cells.specs.Memory.{lent_to_read}
use Rattle.octets.specs.Words.{word_count}
use Rattle.octets.specs.Booking.{Outcome, book}

-- the number of each record, and the words after the last
pub record Booked : Type 0 where
  pub codes : List ℕ
  pub words : List ℕ

-- the records one after the other, each by what `one` makes of it and of the words that the last one left
unfoldable pub each : (ℕ → ℕ → List ℕ → Outcome) → List ℕ → List ℕ → List ℕ → Booked
each one (x ∷ xs) (n ∷ ns) words =
    let now = one x n words in
    let rest = each one xs ns now.words in
    record { codes = now.code ∷ rest.codes; words = rest.words }
each one (x ∷ xs) [] words = record { codes = []; words = words }
each one [] ns words = record { codes = []; words = words }

-- addresses and amounts
abbrev pub book_each : List ℕ → List ℕ → Prefix → List ℕ → List ℕ → List ℕ → Booked
book_each first long t addresses amounts words = each (book first long t) addresses amounts words

-- what a call answers, the words that it leaves, and what it leaves in the room for the numbers
pub record Outcomes : Type 0 where
  pub code : ℕ
  pub words : List ℕ
  pub codes : List ℕ

-- 0 and the number of each record; or 1, where `book` would answer 1 to every record or the three counts differ
unfoldable pub book_all : List ℕ → List ℕ → Prefix → List ℕ → List ℕ → List ℕ → List ℕ → Outcomes
book_all first long t addresses amounts codes words =
    let booked = book_each first long t addresses amounts words in
    cond
    (eqb (length words) word_count && eqb (length amounts) (length addresses)
    && (lent_to_read (length first) (length long) t && eqb (length addresses) (length codes)))
    (record { code = 0; words = booked.words; codes = booked.codes })
    (record { code = 1; words = words; codes = codes })
