-- `form::rules_in_order` meets its contract. The invariant is `OrderedTo`: the first i words are rules in order, and `low` is just above
-- their keys. Assumes nothing.
use Rattle.rules.proofs.Counts.{OrderedTo}
use Rattle.rules.proofs.form.rules_in_order.Given as goal

abbrev pub invariant-loop-i : goal.invariant-loop-i
invariant-loop-i l = OrderedTo l.territory l.rules l.i l.low
