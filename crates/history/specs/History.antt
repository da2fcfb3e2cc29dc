-- A history: a call of clear, then any number of announce, withdraw and re-home calls, refused ones among them. Each step is the outcome
-- that the call's own contract gives. What is live is read off the history. Assumes nothing.
use Rattle.std.specs.Prelude.{◌≡◌, ℕ, Bool, cond, eqb}
use mathlib.Core.List.{List, [], Memᴰ as Mem}
use Rattle.prefix.specs.declared.Prefix.{Prefix}
use Rattle.prefix.specs.Prefixes.{prefix_by, cleared_of, Contains}
use Rattle.prefix.specs.declared.Route.{Route}
use Rattle.prefix.specs.Routes.{applied, IsLongest}
use Rattle.cells.specs.Memory.{Lent}
use Rattle.lookup.specs.Lookup.{Answer, found, refused}
use Rattle.refusals.specs.Codes.{Call, change}
use Rattle.updates.specs.declared.Report.{Report}
use Rattle.updates.specs.Calls.{clear, step}

pub data History : Type 0 where
  start : History
  ◌then◌ : History → Call → History

infixl 30 ◌then◌
-- the lent memory after a history in the territory t: first what a call of clear leaves of m, then what each call leaves
unfoldable pub memory : Prefix → Lent → History → Lent
memory t m start = (clear t m).lent
memory t m (h then c) = (step t c (memory t m h)).lent

-- what a call reports after a history
unfoldable pub report : Prefix → Lent → History → Call → Report
report t m h c = (step t c (memory t m h)).report

-- the call is accepted after the history
unfoldable pub is_accepted : Prefix → Lent → History → Call → Bool
is_accepted t m h c = eqb (report t m h c).code 0

-- the live prefixes with their hops, read off the history: a prefix is live from an accepted announce until an accepted withdraw, and its
-- hop is the last one accepted for it
unfoldable pub live : Prefix → Lent → History → List Route
live t m start = []
live t m (h then c) = cond (is_accepted t m h c) (applied (change c) (live t m h)) (live t m h)

-- an answer is that of the longest match: the length and the hop of the longest live prefix that contains the address, or 8 where none does
pub data IsAnswer (rs : List Route) (a : ℕ) (answer : Answer) : Type 0 where
  routed : (r : Route) → IsLongest rs a r → answer ≡ found r.prefix.length r.hop → IsAnswer rs a answer
  no_route : ((r : Route) → Mem r rs → ¬ Contains r.prefix a) → answer ≡ refused 8 → IsAnswer rs a answer

-- the prefix that won, as one reads it off an answer: the address cut to the answer's length, with the answer's hop
abbrev pub won_by : ℕ → Answer → Route
won_by a answer = record { prefix = prefix_by (cleared_of answer.length a) answer.length; hop = answer.hop }
