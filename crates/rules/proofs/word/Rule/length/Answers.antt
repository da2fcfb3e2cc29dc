-- `Rule::length` meets its contract, by the layout of a word. Assumes nothing.
use mathlib.Core.Path.{ap}
use Rattle.prefix.specs.declared.Route.{Route}
use Rattle.rules.proofs.Words.{route_is}
use Rattle.rules.proofs.word.Rule.length.Goals as goal

pub returns : goal.returns
returns c = ap (λ (r : Route). r.prefix.length) (route_is c.args.word)
