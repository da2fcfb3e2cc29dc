-- The run of a longest match, over a list of routes: an address a and a later one b, which no route that starts past a contains, have one
-- best where the longest match of a contains b. A route that contains b starts no later than a, so it contains a; one that contains a
-- lies around the longest match, so it contains b. Assumes nothing.
use mathlib.Core.Path.{◌≡◌}
use mathlib.Core.List.{List, Memᴰ as Mem}
use Prim.Native.Nat.{ℕ, ◌+◌, ◌≤◌, ◌<◌}
use native.Mathlib.Nat.{le_trans, lt_of_le_of_lt}
use Rattle.ground.proofs.Tests.{iff?, same_test}
use Rattle.prefix.specs.Prefixes.{span, Contains}
use Rattle.prefix.specs.declared.Route.{Route}
use Rattle.prefix.specs.Routes.{best, AllRoutes, IsLongest}
use Rattle.prefix.proofs.Prefixes.{contains?, nested, in_range_lem, by_range}
use Rattle.prefix.proofs.Changes.{best_cong}

module _ {rs : List Route} {a : ℕ} (all : AllRoutes rs) (b : ℕ) (from : a ≤ b)
    (starts : (r : Route) → Mem r rs → Contains r.prefix b → r.prefix.address ≤ a) where
  -- all that contain a contain b
  same : ((r : Route) → Mem r rs → Contains r.prefix a → Contains r.prefix b) → best rs b ≡ best rs a
  same on =
      best_cong rs b a (λ r m.
      same_test (contains? r.prefix b) (iff? (contains? r.prefix a) (on r m) (λ c.
      let f = (all r m).formed in by_range f (starts r m c) (lt_of_le_of_lt from (in_range_lem f c).1))))

  -- no route contains a
  pub same_none : ((r : Route) → Mem r rs → ¬ Contains r.prefix a) → best rs b ≡ best rs a
  same_none n = same (λ r m c. absurd (n r m c))

  -- the longest match of a ends past b
  pub same_longest : {r : Route} → IsLongest rs a r → b < r.prefix.address + span r.prefix.length → best rs b ≡ best rs a
  same_longest {r} l h =
      let f = (all r l.member).formed in
      let end = by_range f (le_trans (in_range_lem f l.contains).0 from) h in
      same (λ s m c. nested f (l.longest s m c) c l.contains end)
