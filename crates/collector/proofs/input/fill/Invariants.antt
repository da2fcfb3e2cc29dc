-- `fill` stays within the buffer. Assumes nothing.
use Rattle.std.proofs.Common.{length, ◌≤◌, ◌≡◌}
use Rattle.collector.proofs.input.fill.Given as goal

abbrev pub invariant-loop : goal.invariant-loop
invariant-loop g l = (length l.buffer ≡ length l.initial.buffer) × (l.count ≤ length l.buffer)
