-- What a site's octets are charged to: its tables take updates and its flows are booked with these tables, in any order. Assumes nothing.
use Rattle.std.specs.Prelude.{◌≡◌, cond, ◌&&◌, ℕ, ◌+◌, ◌<◌, eqb, get_or}
use mathlib.Core.List.{List, [], ◌∷◌, Memᴰ as Mem}
use Rattle.ground.specs.Sums.{sum}
use Rattle.prefix.specs.declared.Prefix.{Prefix}
use Rattle.prefix.specs.Prefixes.{Contains}
use Rattle.prefix.specs.declared.Route.{Route}
use Rattle.prefix.specs.Routes.{Match, no_route, via, best, IsLongest}
use Rattle.cells.specs.Memory.{Lent}
use Rattle.refusals.specs.Codes.{Call}
use Rattle.history.specs.History.{History, start, ◌then◌, memory, live}
use Rattle.octets.specs.Words.{word_count}
use Rattle.octets.specs.Booking.{Outcome, add_to}
use Rattle.octets.specs.Bookings.{Flow, Bookings, none, ◌booking◌, words_after, is_accepted, octets_all}

-- ---- one flow

-- no live prefix contains the address
abbrev pub Unrouted : List Route → ℕ → Type 0
Unrouted rs a = (r : Route) → Mem r rs → ¬ Contains r.prefix a

-- an address is charged to the hop of the longest live prefix that contains it, and to word 0 where none does
pub data IsCharged (rs : List Route) (a : ℕ) (h : ℕ) : Type 0 where
  to_hop : (r : Route) → IsLongest rs a r → h ≡ r.hop → IsCharged rs a h
  to_none : Unrouted rs a → h ≡ 0 → IsCharged rs a h

-- a flow booked with tables on which rs is live: what its call answers and leaves
pub record Charges (rs : List Route) (a amount : ℕ) (words : List ℕ) (o : Outcome) : Type 0 where
  -- the word that it goes to
  pub hop : ℕ
  pub charged : IsCharged rs a hop
  -- this is word 0 exactly if no live prefix contains the address
  pub only_unrouted : hop ≡ 0 → Unrouted rs a
  pub unrouted : Unrouted rs a → hop ≡ 0
  -- the amount is added there, and the call is accepted; or 30, where that word would pass 2 ^ 53, and nothing changes
  pub added : o ≡ add_to hop amount words

-- ---- a site's account

-- the tables and the words are cleared; then updates and flows come in any order, refused ones among them
pub data Account : Type 0 where
  cleared : Account
  updated : Account → Call → Account
  carried : Account → ℕ → ℕ → Account

-- its updates
unfoldable pub updates : Account → History
updates cleared = start
updates (updated s c) = updates s then c
updates (carried s a amount) = updates s

-- a flow with the tables as they are now
abbrev pub flow_of : Prefix → Lent → Account → ℕ → ℕ → Flow
flow_of t m s a amount = record {
  first = (memory t m (updates s)).tables.first;
  long = (memory t m (updates s)).tables.long;
  territory = t;
  address = a;
  amount = amount;
}

-- its flows, each with the tables of its time
unfoldable pub flows : Prefix → Lent → Account → Bookings
flows t m cleared = none
flows t m (updated s c) = flows t m s
flows t m (carried s a amount) = flows t m s booking flow_of t m s a amount

-- the flows of one call for many, one after the other
unfoldable pub carried_all : Account → List ℕ → List ℕ → Account
carried_all s (a ∷ xs) (n ∷ ns) = carried_all (carried s a n) xs ns
carried_all s (a ∷ xs) [] = s
carried_all s [] ns = s

-- the words of octets now
abbrev pub words_now : Prefix → Lent → List ℕ → Account → List ℕ
words_now t m w s = words_after w (flows t m s)

-- the word that an address is charged to, as a function: that of the longest match
abbrev pub word_by : Match → ℕ
word_by no_route = 0
word_by (via hop length) = hop

abbrev pub charged_to : List Route → ℕ → ℕ
charged_to rs a = word_by (best rs a)

-- the octets of the accepted flows that were charged to h, by what was live when each came
unfoldable pub octets_to : Prefix → Lent → List ℕ → Account → ℕ → ℕ
octets_to t m w cleared h = 0
octets_to t m w (updated s c) h = octets_to t m w s h
octets_to t m w (carried s a amount) h =
    octets_to t m w s h + cond (is_accepted w (flows t m s) (flow_of t m s a amount) && eqb (charged_to (live t m (updates s)) a) h) amount 0

-- what finance may rely on
pub record Charged (t : Prefix) (m : Lent) (w : List ℕ) (s : Account) : Type 0 where
  -- each word holds the octets of the accepted flows for which the longest live prefix had this hop, and word 0 of those that none contained
  pub each_hop : (h : ℕ) → h < word_count → get_or (words_now t m w s) h 0 ≡ octets_to t m w s h
  -- and together they hold the octets of all accepted flows
  pub all_hops : sum word_count (λ h. get_or (words_now t m w s) h 0) ≡ octets_all w (flows t m s)
