-- `Rule::pack` meets its contract, by the layout of a word. Assumes nothing.
use Rattle.rules.proofs.Words.{word_is}
use Rattle.rules.proofs.word.Rule.pack.Goals as goal

pub returns : goal.returns
returns c = word_is c.args.route.prefix c.args.route.hop
