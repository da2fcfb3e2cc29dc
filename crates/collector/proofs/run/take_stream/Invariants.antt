-- `take_stream` meets its contract: what was handed over so far leads here. Assumes nothing.
use Rattle.std.proofs.Common.{length, ◌≡◌, Ok}
use Rattle.cells.specs.Memory.{lent_of}
use Rattle.collector.specs.declared.run.Next.TheVariants.{Expects}
use Rattle.collector.specs.Running.{Handed}
use Rattle.collector.proofs.run.take_stream.Given as goal

abbrev pub invariant-loop : goal.invariant-loop
invariant-loop g l =
    (length l.first ≡ length l.initial.first) × (length l.long ≡ length l.initial.long)
    × (length l.owners ≡ length l.initial.owners) × (length l.rules ≡ length l.initial.rules)
    × Handed 0 (lent_of l.initial.first l.initial.long l.initial.owners l.initial.rules) (Ok (Expects l.expected))
    (lent_of l.first l.long l.owners l.rules)
