-- The calls of an update, and the number that each answers, as one function of the lent memory and the numbers: the tests run in the
-- paper's order, and the first that holds refuses. 0 is success. Assumes nothing.
use Rattle.std.specs.Prelude.{ℕ, cond, not, ◌&&◌}
use Rattle.prefix.specs.declared.Prefix.{Prefix}
use Rattle.prefix.specs.Prefixes.{encloses}
use Rattle.prefix.specs.declared.Route.{Route}
use Rattle.prefix.specs.Routes.{Change, puts, takes, named, is_change}
use Rattle.rules.specs.Rules.{routes, is_live}
use Rattle.cells.specs.Memory.{Lent, is_lent, no_zero, needs_segment}
use Rattle.damage.specs.Damage.{undamaged}

-- an update, as it is asked for
pub data Call : Type 0 where
  announces : Route → Call
  withdraws : Prefix → Call
  re_homes : Route → Call

-- what it makes of the list, if it is accepted
abbrev pub change : Call → Change
change (announces r) = puts r
change (withdraws p) = takes p
change (re_homes r) = puts r

-- refusals 1 to 4, which are those of every change; else what follows
unfoldable pub tested : Prefix → Change → Lent → ℕ → ℕ
tested t c m next =
    cond (not (is_lent t m)) 1
    (cond (not (is_change c)) 2
    (cond (not (encloses t (named c))) 3
    (cond (not (undamaged t (named c) m)) 4
    next)))

-- refusal 5: the prefix is not live
unfoldable pub unless_live : Prefix → Lent → ℕ
unless_live p m = cond (not (is_live p (routes m.rules))) 5 0

-- refusals 6 and 7: the prefix is not live and no rule word is free; it needs a segment and none is free
unfoldable pub unless_room : Prefix → Prefix → Lent → ℕ
unless_room t p m =
    cond (not (is_live p (routes m.rules)) && no_zero m.rules) 6
    (cond (needs_segment t p m.tables && no_zero m.tables.owners) 7
    0)

-- the refusals of a call's own
abbrev pub own : Prefix → Call → Lent → ℕ
own t (announces r) m = unless_room t r.prefix m
own t (withdraws p) m = unless_live p m
own t (re_homes r) m = unless_live r.prefix m

unfoldable pub code : Prefix → Call → Lent → ℕ
code t c m = tested t (change c) m (own t c m)

-- clear
unfoldable pub clear_code : Prefix → Lent → ℕ
clear_code t m = cond (not (is_lent t m)) 1 0
