-- What each call answers and leaves, for every input: one report and one memory. Assumes nothing.
use Rattle.std.specs.Prelude.{ℕ, cond, eqb, Result, Ok, Err}
use Rattle.ground.specs.declared.refusal.Refusal.{Refusal}
use Rattle.ground.specs.Refusals.{number}
use Rattle.prefix.specs.declared.Prefix.{Prefix}
use Rattle.cells.specs.Memory.{Lent}
use Rattle.tables.specs.Changes.{changed}
use Rattle.refusals.specs.Codes.{Call, change, code, clear_code}
use Rattle.updates.specs.declared.Report.{Report}
use Rattle.updates.specs.Effects.{cleared, effect}

-- a report and the lent memory at exit
pub record Outcome : Type 0 where
  pub report : Report
  pub lent : Lent

abbrev pub reported : Report → Lent → Outcome
reported r m = record { report = r; lent = m }

-- in numbers: an accepted update answers 0 and its count, a refused one the number and 0
abbrev pub report_of : Result ℕ Refusal → Report
report_of (Ok cells) = record { code = 0; cells = cells }
report_of (Err refusal) = record { code = number refusal; cells = 0 }

-- refused: the number, count 0, every lent word as it was
abbrev pub refused : ℕ → Lent → Outcome
refused number m = reported (record { code = number; cells = 0 }) m

-- accepted: the memory n, and the number of cells whose content differs from that in m
abbrev pub accepted : Lent → Lent → Outcome
accepted m n = reported (record { code = 0; cells = changed m.tables n.tables }) n

abbrev pub outcome : ℕ → Lent → Lent → Outcome
outcome number m n = cond (eqb number 0) (accepted m n) (refused number m)

-- announce, withdraw and re-home
unfoldable pub step : Prefix → Call → Lent → Outcome
step t c m = outcome (code t c m) m (effect t (change c) m)

-- an accepted clear answers no more than 0
unfoldable pub clear : Prefix → Lent → Outcome
clear t m = cond (eqb (clear_code t m) 0) (reported (record { code = 0; cells = 0 }) (cleared m)) (refused (clear_code t m) m)
