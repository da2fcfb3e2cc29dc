-- `take_records` meets its contract: the invariant is `Going`. Assumes nothing.
use Rattle.std.proofs.Common.{◌≡◌, length}
use Rattle.cells.specs.Memory.{lent_of}
use Rattle.stream.proofs.Taking.{Going}
use Rattle.stream.proofs.take_records.Given as goal

abbrev pub invariant-loop-record : goal.invariant-loop-record
invariant-loop-record l =
    (length l.first ≡ length l.initial.first) × (length l.long ≡ length l.initial.long) × (length l.owners ≡ length l.initial.owners)
    × (length l.rules ≡ length l.initial.rules) × (length l.lines ≡ length l.initial.lines) × (l.record-iterator.size ≡ 15)
    × Going l.territory l.bytes l.expected (lent_of l.initial.first l.initial.long l.initial.owners l.initial.rules) l.initial.lines
    (lent_of l.first l.long l.owners l.rules) l.lines l.next l.count l.record-iterator.rest.now
