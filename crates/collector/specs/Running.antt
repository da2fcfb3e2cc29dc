-- What the program's loop and its last line come to. No contract of the kit says which bytes a read gives: so the contracts here are of some
-- bytes, those that the reads handed over, in order. Assumes nothing.
use Rattle.std.specs.Prelude.{◌≡◌, ℕ, ◌+◌, ◌-◌, ◌*◌, ◌%◌, ◌^◌, ◌≤◌, List, ◌++◌, codes, length, Result, Ok, Err, IfOk}
use Rattle.std.specs.Fmt.{decimal}
use Rattle.ground.specs.declared.refusal.Refusal.{Refusal}
use Rattle.ground.specs.Refusals.{code_of}
use Rattle.prefix.specs.declared.Prefix.{Prefix}
use Rattle.records.specs.Record.{size}
use Rattle.cells.specs.Memory.{Lent}
use Rattle.history.specs.History.{History, start, memory, live}
use Rattle.stream.specs.Stream.{Step, Expects, stream_of, number_of, goes_on, lent_after, used}
use Rattle.collector.specs.declared.failures.Failed.{Failed}
use Rattle.collector.specs.declared.input.After.{After}
use Rattle.collector.specs.declared.input.After.TheVariants.{Records, End}
use Rattle.collector.specs.declared.input.Filled.{Filled}
use Rattle.collector.specs.declared.run.Next.{Next}
use Rattle.collector.specs.declared.run.Next.TheVariants.{Expects as Goes, Ends}
use Rattle.collector.specs.declared.run.Ended.{Ended}
use Rattle.collector.specs.declared.output.Last.{Last}

-- 10.16.0.0/12
abbrev pub site : Prefix
site = record { address = 10 * 2 ^ 24 + 16 * 2 ^ 16; length = 12 }

-- ---- a buffer

-- where records come after the bytes, these are whole records
abbrev pub Whole : ℕ → Result After Failed → Type 0
Whole count (Ok Records) = count % size ≡ 0
Whole count (Ok End) = Unit {0}
Whole count (Err failed) = Unit {0}

-- a buffer with this much room: its bytes lie within it
pub record FilledIs (room : ℕ) (r : Filled) : Type 0 where
  pub within : r.count ≤ room
  pub whole : Whole r.count r.after

-- how many of its bytes are taken: all, or where a read failed the whole records among them
abbrev pub takes : ℕ → Result After Failed → ℕ
takes count (Ok after) = count
takes count (Err failed) = count - count % size

abbrev pub count_of : Filled → ℕ
count_of f = takes f.count f.after

-- what comes next: a refused record ends the stream, and so does the input's end, with 0; a read that failed is no end
abbrev pub next_of : Result ℕ Refusal → Result After Failed → Result Next Failed
next_of (Err r) after = Ok (Ends (Err r))
next_of (Ok serial) (Ok Records) = Ok (Goes serial)
next_of (Ok serial) (Ok End) = Ok (Ends (Ok tt))
next_of (Ok serial) (Err failed) = Err failed

-- how a stream ended comes last
abbrev pub ended_by : Result (Result (Unit {0}) Refusal) Failed → Result Next Failed
ended_by (Ok end) = Ok (Ends end)
ended_by (Err failed) = Err failed

-- ---- the loop

-- what is said of the stream of some bytes: it goes on after whole records, with this serial; it ends with this number; something failed
abbrev pub Agrees : Result Next Failed → Step → List ℕ → Type 0
Agrees (Ok (Goes serial)) s bytes = (s ≡ Expects serial) × (length bytes % size ≡ 0)
Agrees (Ok (Ends end)) s bytes = code_of end ≡ number_of s
Agrees (Err failed) s bytes = Unit {0}

-- some bytes, read with this serial expected first, lead from the memory m to n
pub record Handed (expected : ℕ) (m : Lent) (r : Result Next Failed) (n : Lent) : Type 0 where
  pub bytes : List ℕ
  pub lent : n ≡ lent_after site m (stream_of bytes expected).updates
  pub says : Agrees r (stream_of bytes expected).step bytes

-- ---- the whole

-- the history of the calls that a stream's records make
abbrev pub history_of : List ℕ → History
history_of bytes = goes_on start (stream_of bytes 0).updates

-- the last line as text, with a newline
abbrev pub text_of : Last → List ℕ
text_of l = codes "end " ++ decimal l.code ++ codes " live " ++ decimal l.prefixes ++ codes " open " ++ decimal l.segments ++ codes "\n"

-- some bytes, those that were handed over: the memory at exit is that of their history, and the last line has the number with which
-- their stream ends, how many prefixes are live, and how many segments are open, that is have an owner word that is not 0; where a read or
-- a write failed there is no number, and both counts hold as they do else
pub record LastIs (m : Lent) (r : Ended) (n : Lent) : Type 0 where
  pub bytes : List ℕ
  pub lent : n ≡ memory site m (history_of bytes)
  pub number : IfOk r.code (λ code. code ≡ number_of (stream_of bytes 0).step)
  pub prefixes : r.prefixes ≡ length (live site m (history_of bytes))
  pub segments : r.segments ≡ used (memory site m (history_of bytes)).tables.owners
