-- Demands 2 and 3 of a stream: after the updates of any stream from cleared memory, look up answers by the longest match, and the next one
-- costs its price. Assumes nothing.
use mathlib.Core.Path.{◌≡◌, refl, subst}
use mathlib.Core.List.{List, ◌∷◌}
use Prim.Native.Nat.{ℕ}
use Rattle.prefix.specs.declared.Prefix.{Prefix}
use Rattle.refusals.specs.Codes.{change}
use Rattle.prefix.specs.Prefixes.{Contains}
use Rattle.lookup.specs.Lookup.{look_up}
use Rattle.records.specs.declared.Update.{Update}
use Rattle.cells.specs.Memory.{Lent, IsLent}
use Rattle.updates.specs.Calls.{clear, step}
use Rattle.history.specs.Costs.{Costs}
use Rattle.history.specs.History.{History, start, ◌then◌, memory, report, live, IsAnswer}
use Rattle.prefix.specs.Routes.{named}
use Rattle.history.proofs.Demand2.{demand_2}
use Rattle.history.proofs.Demand3.{demand_3}
use Rattle.stream.specs.Stream.{call_of, goes_on, lent_after, line_of, lines_of}
use Rattle.stream.proofs.Streams.{memory-goes_on}

module _ (t : Prefix) (m : Lent) where
  -- the memory after the updates of a stream is that of the history of their calls
  pub stream_memory : (us : List Update) → memory t m (goes_on start us) ≡ lent_after t (clear t m).lent us
  unfolding memory
  stream_memory us = memory-goes_on t m start us

  -- each line is the serial of its update, and what its call reported in the history so far
  pub line_is_report : (h : History) (u : Update) (us : List Update)
      → lines_of t (memory t m h) (u ∷ us)
      ≡ line_of u (report t m h (call_of u)) ∷ lines_of t (memory t m (h then call_of u)) us
  unfolding lines_of memory report
  line_is_report h u us = refl

  module _ (l : IsLent t m) (us : List Update) where
    pub stream_demand_2 : (a : ℕ) → Contains t a
        → IsAnswer (live t m (goes_on start us)) a (look_up (lent_after t (clear t m).lent us).tables.first (lent_after t (clear t m).lent us).tables.long t a)
    stream_demand_2 a c =
        subst (λ (n : Lent). IsAnswer (live t m (goes_on start us)) a (look_up n.tables.first n.tables.long t a)) (stream_memory us)
        (demand_2 t m l (goes_on start us) a c)

    pub stream_demand_3 : (u : Update)
        → Costs t (named (change (call_of u))) (live t m (goes_on start us)) (live t m (goes_on start us then call_of u)) (lent_after t (clear t m).lent us)
        (step t (call_of u) (lent_after t (clear t m).lent us)).lent (step t (call_of u) (lent_after t (clear t m).lent us)).report.cells
    unfolding memory report
    stream_demand_3 u =
        let h = goes_on start us in
        subst (λ (n : Lent). Costs t (named (change (call_of u))) (live t m h) (live t m (h then call_of u)) n (step t (call_of u) n).lent (step t (call_of u) n).report.cells)
        (stream_memory us) (demand_3 t m l h (call_of u))
