-- `enter_all` meets its contract: the invariant is `Going`, and the words stay as many. Assumes nothing.
use Rattle.std.proofs.Common.{◌≡◌, length}
use Rattle.octets.specs.Words.{word_count}
use Rattle.octets.specs.inner.Numbers.{enter_number}
use Rattle.octets.proofs.Going.{Going}
use Rattle.octets.proofs.enter_all.Given as goal

abbrev pub invariant-loop-i : goal.invariant-loop-i
invariant-loop-i l = (length l.octets ≡ word_count) × Going enter_number l.initial.codes l.amounts l.initial.octets l.i l.codes l.octets
