-- `longest` meets its contract: the climb finds the longest match, if there is one, and its cell holds in its prefix. Assumes nothing.
use mathlib.Core.Path.{ap, ap₂, ◌∙◌}
use Prim.Native.Nat.{◌+◌}
use native.Mathlib.Omega.{arith}
use Rattle.prefix.specs.Prefixes.{span}
use Rattle.prefix.specs.Routes.{IsRoute}
use Rattle.cells.specs.Cells.{pack}
use Rattle.rules.specs.Words.{route_of}
use Rattle.rules.proofs.AllLive.{ordered_listed}
use Rattle.runs.proofs.Places.{at_key}
use Rattle.runs.proofs.Covered.{holds_none, holds_found}
use Rattle.runs.proofs.longest.Goals.{In-Some}
use Rattle.runs.proofs.longest.Goals as goal

-- the longest match is one of the routes
route : (c : In-Some) → IsRoute (route_of c.in-Some.word)
route c = (ordered_listed c.args.live.ordered).all _ c.in-Some.ensures.member

pub pack-cell-requires : goal.pack-cell-requires
pack-cell-requires c =
    let r = route (goal.at.pack-cell-requires c).In-Some in (omega (arith, r.hop_fits), omega (arith, r.formed.short))

pub span_of-requires : goal.span_of-requires
span_of-requires c = omega (arith, (route (goal.at.span_of-requires c).In-Some).formed.short)

pub run-requires : goal.run-requires
run-requires c =
    holds_found c.args.address (ordered_listed c.args.live.ordered) (at_key c.position.ensures c.key_past.ensures) c.in-Some.ensures
    (c.pack-cell.ensures ∙ ap₂ pack c.hop.ensures c.length-length.ensures)
    (ap₂ ◌+◌ c.address.ensures (c.span_of.ensures ∙ ap span c.length-length.ensures))

pub run-requires-in-None : goal.run-requires-in-None
run-requires-in-None c =
    holds_none c.args.address (ordered_listed c.args.live.ordered) (at_key c.position.ensures c.key_past.ensures) c.ranges.address.fits
    c.in-None.ensures
