-- `Rule::key` meets its contract: what stands before the hop is the key of the prefix. Assumes nothing.
use Rattle.rules.proofs.Words.{word_key}
use Rattle.rules.proofs.word.Rule.key.Goals as goal

pub returns : goal.returns
returns c = word_key c.args.word
