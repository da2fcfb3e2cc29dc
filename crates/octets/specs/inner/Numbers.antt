-- Bookings by answers of look up that stand in the room as numbers. Assumes nothing.
use Rattle.std.specs.Prelude.{◌≡◌, List, ℕ, ◌≤◌, ◌<◌, length, get_or}
use Rattle.lookup.specs.Lookup.{answer_of, unpacked_of}
use Rattle.lookup.specs.inner.Outcomes.{outcome_of}
use Rattle.prefix.specs.Routes.{last_hop}
use Rattle.octets.specs.Booking.{Outcome, enter}
use Rattle.octets.specs.Many.{Booked, each}

-- the number of an answer that look up can give: it holds an outcome, and the hop has its word
pub record IsNumber (n : ℕ) : Type 0 where
  pub outcome : answer_of (outcome_of n) ≡ unpacked_of n
  pub hop : (unpacked_of n).hop ≤ last_hop

abbrev pub AreNumbers : List ℕ → Type 0
AreNumbers numbers = (i : ℕ) → i < length numbers → IsNumber (get_or numbers i 0)

abbrev pub enter_number : ℕ → ℕ → List ℕ → Outcome
enter_number n amount words = enter (unpacked_of n) amount words

abbrev pub enter_each : List ℕ → List ℕ → List ℕ → Booked
enter_each numbers amounts words = each enter_number numbers amounts words
