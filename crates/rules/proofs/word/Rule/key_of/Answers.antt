-- `Rule::key_of` meets its contract, by the layout of a word. Assumes nothing.
use Rattle.rules.proofs.Words.{key_is}
use Rattle.rules.proofs.word.Rule.key_of.Goals as goal

pub returns : goal.returns
returns c = key_is c.args.prefix
