-- A stream of update records as a function of its bytes: which updates its records carry, in which order, each under its serial, until the
-- bytes end or a record is refused. And what those updates leave in the lent memory, and the lines that are printed for them.
-- Assumes nothing.
use Rattle.std.specs.Prelude.{ℕ, zero, suc, ◌+◌, ◌/◌, cond, List, [], ◌∷◌, ◌++◌, codes, eqb, length, get_or, drop, Result, Ok, Err}
use Rattle.std.specs.Fmt.{decimal}
use Rattle.ground.specs.declared.refusal.Refusal.{Refusal}
use Rattle.ground.specs.Refusals.{number}
use Rattle.ground.specs.Sums.{sum}
use Rattle.ground.specs.Lists.{differs}
use Rattle.prefix.specs.declared.Prefix.{Prefix}
use Rattle.records.specs.declared.Update.{Update}
use Rattle.records.specs.Record.{size, read_as, next_serial, announce as announce_kind, withdraw as withdraw_kind}
use Rattle.rules.specs.Words.{route_by}
use Rattle.cells.specs.Memory.{Lent}
use Rattle.refusals.specs.Codes.{Call, announces, withdraws, re_homes}
use Rattle.history.specs.History.{History, ◌then◌}
use Rattle.updates.specs.declared.Report.{Report}
use Rattle.updates.specs.Calls.{step}
use Rattle.stream.specs.declared.Line.{Line}

-- ---- the updates of a stream

-- where a stream stands: it expects a record of this serial next, or it ended with the number of a record that reading refused
pub data Step : Type 0 where
  Expects : ℕ → Step
  Refused : ℕ → Step

-- as a function answers it
abbrev pub step_of : Result ℕ Refusal → Step
step_of (Ok serial) = Expects serial
step_of (Err r) = Refused (number r)

-- the updates that some bytes of a stream carry, in order, and where it stands then
pub record Stream : Type 0 where
  pub updates : List Update
  pub step : Step

abbrev pub refused_at : ℕ → Stream
refused_at number = record { updates = []; step = Refused number }

abbrev pub first_then : Update → Stream → Stream
first_then u s = record { updates = u ∷ s.updates; step = s.step }

-- of n records: the first is read under the serial that is expected; refused, it ends the stream with its number; accepted, the others
-- follow, 15 bytes on, under the next serial
unfoldable pub of_records : ℕ → List ℕ → ℕ → Stream
of_records zero bytes expected = record { updates = []; step = Expects expected }
of_records (suc n) bytes expected =
    let r = read_as bytes expected in
    cond (eqb r.code 0) (first_then r.update (of_records n (drop size bytes) (next_serial r.update.serial))) (refused_at r.code)

-- how many records there are in the bytes, the last perhaps cut short
abbrev pub records_in : List ℕ → ℕ
records_in bytes = (length bytes + 14) / size

-- of all the bytes, with this serial expected first; a whole stream expects 0
unfoldable pub stream_of : List ℕ → ℕ → Stream
stream_of bytes expected = of_records (records_in bytes) bytes expected

-- the number with which a stream ends: 0 where its bytes end, or that of the record that was refused
abbrev pub number_of : Step → ℕ
number_of (Expects serial) = 0
number_of (Refused number) = number

-- ---- what they do

-- the call that an update makes, by its kind: reading lets only announce, withdraw and re-home pass
abbrev pub call_of : Update → Call
call_of u =
    let p : Prefix = record { address = u.address; length = u.length } in
    cond (eqb u.kind announce_kind) (announces (route_by p u.hop))
    (cond (eqb u.kind withdraw_kind) (withdraws p)
    (re_homes (route_by p u.hop)))

-- a history that goes on with these updates
abbrev pub goes_on : History → List Update → History
goes_on h [] = h
goes_on h (u ∷ us) = goes_on (h then call_of u) us

-- the lent memory after the updates, each taken by the call that its contract says
unfoldable pub lent_after : Prefix → Lent → List Update → Lent
lent_after t m [] = m
lent_after t m (u ∷ us) = lent_after t (step t (call_of u) m).lent us

-- the lines: for each update its serial, the number that the tables answered and the cells that it changed
abbrev pub line_of : Update → Report → Line
line_of u r = record { serial = u.serial; code = r.code; cells = r.cells }

-- as text: the three numbers, with a blank between them, and a newline
abbrev pub text_of : Line → List ℕ
text_of l = decimal l.serial ++ codes " " ++ decimal l.code ++ codes " " ++ decimal l.cells ++ codes "\n"

unfoldable pub lines_of : Prefix → Lent → List Update → List Line
lines_of t m [] = []
lines_of t m (u ∷ us) =
    let o = step t (call_of u) m in
    line_of u o.report ∷ lines_of t o.lent us

-- ---- the last line

-- how many words are not 0
abbrev pub used : List ℕ → ℕ
used words = sum (length words) (λ i. differs (get_or words i 0) 0)
