-- Every history of bookings, and what its words are to hold. A history starts with a call of clear; then flows are booked, refused ones among
-- them, each with any tables, any territory, any address and any amount. Assumes nothing.
use Rattle.std.specs.Prelude.{◌≡◌, Bool, cond, ◌&&◌, List, [], ◌∷◌, ℕ, ◌+◌, ◌≤◌, ◌<◌, eqb, get_or}
use Rattle.ground.specs.Sums.{sum}
use Rattle.prefix.specs.declared.Prefix.{Prefix}
use Rattle.lookup.specs.Lookup.{Answer, look_up}
use Rattle.octets.specs.Words.{word_count, most}
use Rattle.octets.specs.Booking.{Outcome, clear_octets, book}

-- one call of book, but for the words
pub record Flow : Type 0 where
  pub first : List ℕ
  pub long : List ℕ
  pub territory : Prefix
  pub address : ℕ
  pub amount : ℕ

pub data Bookings : Type 0 where
  none : Bookings
  ◌booking◌ : Bookings → Flow → Bookings

infixl 30 ◌booking◌
-- what the call answers and leaves
abbrev pub book_flow : Flow → List ℕ → Outcome
book_flow f words = book f.first f.long f.territory f.address f.amount words

-- the words after a history: first what a call of clear leaves of w, then what each booking leaves
unfoldable pub words_after : List ℕ → Bookings → List ℕ
words_after w none = (clear_octets w).words
words_after w (b booking f) = (book_flow f (words_after w b)).words

-- a history with the records of one call for many booked after it
unfoldable pub also_all : List ℕ → List ℕ → Prefix → List ℕ → List ℕ → Bookings → Bookings
also_all first long t (a ∷ xs) (n ∷ ns) b =
    also_all first long t xs ns (b booking record { first = first; long = long; territory = t; address = a; amount = n })
also_all first long t (a ∷ xs) [] b = b
also_all first long t [] ns b = b

-- the flow is accepted after the history
unfoldable pub is_accepted : List ℕ → Bookings → Flow → Bool
is_accepted w b f = eqb (book_flow f (words_after w b)).code 0

-- an answer of look up names this word: its hop's, and word 0 for "no route"
abbrev pub names : Answer → ℕ → Bool
names answer h = cond (eqb h 0) (eqb answer.code 8) (eqb answer.code 0 && eqb answer.hop h)

abbrev pub answer_to : Flow → Answer
answer_to f = look_up f.first f.long f.territory f.address

-- the octets of the accepted records for which look up named h, and for word 0 of those with no route
unfoldable pub octets_for : List ℕ → Bookings → ℕ → ℕ
octets_for w none h = 0
octets_for w (b booking f) h = octets_for w b h + cond (is_accepted w b f && names (answer_to f) h) f.amount 0

-- the octets of all accepted records
unfoldable pub octets_all : List ℕ → Bookings → ℕ
octets_all w none = 0
octets_all w (b booking f) = octets_all w b + cond (is_accepted w b f) f.amount 0

-- what is promised of the words after a history
pub record Balances (w : List ℕ) (b : Bookings) : Type 0 where
  -- word h holds the octets of the accepted records for which look up named h
  pub each_word : (h : ℕ) → h < word_count → get_or (words_after w b) h 0 ≡ octets_for w b h
  -- the words sum to the octets of all accepted records
  pub all_words : sum word_count (λ h. get_or (words_after w b) h 0) ≡ octets_all w b
  -- and none is above 2 ^ 53
  pub no_more : (h : ℕ) → h < word_count → get_or (words_after w b) h 0 ≤ most
