-- `book` meets its contract: what look up answers is one of its numbers. Assumes nothing.
use Rattle.octets.proofs.Entering.{is_number}
use Rattle.octets.proofs.book.Goals as goal

pub enter-requires : goal.enter-requires
enter-requires c = (c.if-octets-ne-COUNT.false, is_number _ _ _ _ _ c.answer.ensures)
