-- What the functions that take records answer and leave. Assumes nothing.
use Rattle.std.specs.Prelude.{◌≡◌, ℕ, List, ◌++◌, length, drop, Result, IfOk, OnErr}
use Rattle.ground.specs.declared.refusal.Refusal.{Refusal}
use Rattle.ground.specs.Refusals.{code_of}
use Rattle.prefix.specs.declared.Prefix.{Prefix}
use Rattle.records.specs.Record.{read_as}
use Rattle.cells.specs.Memory.{Lent}
use Rattle.updates.specs.Calls.{step, reported}
use Rattle.stream.specs.declared.Line.{Line}
use Rattle.stream.specs.declared.Taken.{Taken}
use Rattle.stream.specs.Stream.{call_of, stream_of, step_of, lent_after, lines_of}

-- one record, of the bytes and the memory m at entry, the answer and the memory n at exit: what reading says, and if that is 0 what its
-- call answers and leaves
pub record TurnIs (t : Prefix) (bytes : List ℕ) (expected : ℕ) (m : Lent) (r : Result Line Refusal) (n : Lent) : Type 0 where
  pub number : code_of r ≡ (read_as bytes expected).code
  pub serial : IfOk r (λ line. line.serial ≡ (read_as bytes expected).update.serial)
  pub taken : IfOk r (λ line. reported (record { code = line.code; cells = line.cells }) n ≡ step t (call_of (read_as bytes expected).update) m)
  pub kept : OnErr r (n ≡ m)

-- all records of the bytes: where the stream stands, how many were taken, the memory, and the lines, of which only the first change
pub record TakenIs (t : Prefix) (bytes : List ℕ) (expected : ℕ) (m : Lent) (lines : List Line) (r : Taken) (n : Lent) (lines_after : List Line) : Type 0 where
  pub stands : step_of r.step ≡ (stream_of bytes expected).step
  pub count : r.count ≡ length (stream_of bytes expected).updates
  pub lent : n ≡ lent_after t m (stream_of bytes expected).updates
  pub printed : lines_after ≡ lines_of t m (stream_of bytes expected).updates ++ drop r.count lines
