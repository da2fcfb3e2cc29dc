-- `Rule::prefix` meets its contract, field by field. Assumes nothing.
use Rattle.rules.proofs.word.Rule.prefix.Goals as goal

pub returns : goal.returns
returns c = λ i. record { address = c.address.ensures i; length = c.length.ensures i }
