-- Pieces of the input, one after another, and the last line of a history. Assumes nothing.
use Rattle.std.proofs.Common.{◌≡◌, refl, sym, ap, subst, ◌∙◌, ℕ, ◌≤◌, arith}
use Rattle.std.proofs.Common.{[], ◌++◌, length-append, Result, Ok, Err, IsErr, IfOk}
use Rattle.ground.specs.declared.refusal.Refusal.{Refusal}
use Rattle.ground.specs.Refusals.{code_of}
use Rattle.prefix.specs.Prefixes.{Contains}
use Rattle.lookup.specs.Lookup.{look_up}
use Rattle.cells.specs.Memory.{Lent, IsLent}
use Rattle.history.specs.History.{start, memory, live, IsAnswer}
use Rattle.updates.specs.declared.Report.{Report}
use Rattle.updates.specs.Calls.{clear, reported, Outcome}
use Rattle.history.proofs.Demand2.{demand_2}
use Rattle.stream.specs.Stream.{Stream, stream_of, number_of, lent_after, used}
use Rattle.stream.proofs.Streams.{stream_none, stream_joined, lent_after_joined, memory-goes_on}
use Rattle.stream.proofs.Counting.{live_counted}
use Rattle.collector.specs.declared.failures.Failed.{Failed}
use Rattle.collector.specs.declared.input.After.{After}
use Rattle.collector.specs.declared.input.Filled.{Filled}
use Rattle.collector.specs.declared.run.Next.{Next}
use Rattle.collector.specs.declared.run.Next.TheVariants.{Expects as Goes, Ends}
use Rattle.collector.specs.declared.run.Ended.{Ended}
use Rattle.collector.specs.Running.{site, FilledIs, takes, count_of, ended_by, Agrees, Handed, history_of, LastIs}

-- nothing handed over yet
pub handed_none : (expected : ℕ) (m : Lent) → Handed expected m (Ok (Goes expected)) m
unfolding lent_after
handed_none expected m =
    let none = stream_none [] expected refl in
    record {
      bytes = [];
      lent = sym (ap (λ (s : Stream). lent_after site m s.updates) none);
      says = (ap (λ (s : Stream). s.step) none, refl);
    }

-- and other bytes after whole records
pub handed_more : {expected serial : ℕ} {m n k : Lent} {r : Result Next Failed} → Handed expected m (Ok (Goes serial)) n → Handed serial n r k → Handed expected m r k
handed_more {expected} {serial} {m} {n} {k} {r} A B =
    let joined = stream_joined A.bytes B.bytes expected serial A.says.1 A.says.0 in
    record {
      bytes = A.bytes ++ B.bytes;
      lent =
          B.lent ∙ ap (λ (x : Lent). lent_after site x (stream_of B.bytes serial).updates) A.lent
          ∙ sym (lent_after_joined site m (stream_of A.bytes expected).updates (stream_of B.bytes serial).updates)
          ∙ sym (ap (λ (s : Stream). lent_after site m s.updates) joined);
      says = agrees r (ap (λ (s : Stream). s.step) joined) B.says;
    }
  where
    agrees : (r : Result Next Failed) → (stream_of (A.bytes ++ B.bytes) expected).step ≡ (stream_of B.bytes serial).step
        → Agrees r (stream_of B.bytes serial).step B.bytes → Agrees r (stream_of (A.bytes ++ B.bytes) expected).step (A.bytes ++ B.bytes)
    agrees (Ok (Goes s)) e w = (e ∙ w.0, omega (arith, length-append A.bytes B.bytes, A.says.1, w.1))
    agrees (Ok (Ends end)) e w = w ∙ sym (ap number_of e)
    agrees (Err failed) e w = tt

-- as the loop's arms tell it
pub handed_as : {expected serial : ℕ} {m n k : Lent} {next next' : Next} → Handed expected m (Ok (Goes serial)) n → Handed serial n (Ok next) k → next ≡ next'
    → Handed expected m (Ok next') k
handed_as {expected} {m = m} {k = k} A B e = subst (λ (x : Next). Handed expected m (Ok x) k) e (handed_more A B)

-- where a read or a write failed, no number is said
pub handed_failed : {expected serial : ℕ} {m n k : Lent} {failed : Failed} (r : Result (Result (Unit {0}) Refusal) Failed) → IsErr r
    → Handed expected m (Ok (Goes serial)) n → Handed serial n (Err failed) k → Handed expected m (ended_by r) k
handed_failed (Ok end) e A B = cc e
handed_failed (Err failed) e A B = let all = handed_more A B in record { bytes = all.bytes; lent = all.lent; says = tt }

-- ---- one buffer

takes-within : (count : ℕ) (after : Result After Failed) → takes count after ≤ count
takes-within count (Ok after) = omega arith
takes-within count (Err failed) = omega arith

-- what is taken lies within the buffer
pub took_within : {room count : ℕ} {f : Filled} → FilledIs room f → count ≡ count_of f → count ≤ room
took_within {f = f} F e = omega (arith, F.within, e, takes-within f.count f.after)

-- ---- the whole

-- clear, and then what was handed over
module _ {m k n : Lent} {o : Report} (lent : IsLent site m) (cleared : reported o k ≡ clear site m) where
  memory_is : {next : Result Next Failed} → (H : Handed 0 k next n) → n ≡ memory site m (history_of H.bytes)
  unfolding memory
  memory_is H =
      H.lent ∙ ap (λ (x : Outcome). lent_after site x.lent (stream_of H.bytes 0).updates) cleared
      ∙ sym (memory-goes_on site m start (stream_of H.bytes 0).updates)

  -- the counts are of what the memory holds, failed or not
  last_is : {r : Ended} {next : Result Next Failed} {code : Result ℕ Failed} (H : Handed 0 k next n)
      → IfOk code (λ number. number ≡ number_of (stream_of H.bytes 0).step)
      → r ≡ record { code = code; prefixes = used n.rules; segments = used n.tables.owners } → LastIs m r n
  last_is H g e = subst (λ (x : Ended). LastIs m x n) (sym e) (record {
    bytes = H.bytes;
    lent = memory_is H;
    number = g;
    prefixes = ap (λ (x : Lent). used x.rules) (memory_is H) ∙ live_counted site m lent (history_of H.bytes);
    segments = ap (λ (x : Lent). used x.tables.owners) (memory_is H);
  })

  -- the stream ended, and the number is that of its end
  pub ended_with : {r : Ended} {end : Result (Unit {0}) Refusal} {number : ℕ} → Handed 0 k (Ok (Ends end)) n → number ≡ code_of end
      → r ≡ record { code = Ok number; prefixes = used n.rules; segments = used n.tables.owners } → LastIs m r n
  ended_with H g e = last_is H (g ∙ H.says) e

  -- a read or a write failed, and there is no number
  pub ended_failed : {r : Ended} {failed : Failed} → Handed 0 k (Err failed) n
      → r ≡ record { code = Err failed; prefixes = used n.rules; segments = used n.tables.owners } → LastIs m r n
  ended_failed H e = last_is H tt e

-- Demand 2 of the program's tables: whatever was handed over, look up answers every address of the territory by the longest match.
pub tables_answer : (m : Lent) {n : Lent} {r : Ended} → IsLent site m → (R : LastIs m r n) → (a : ℕ) → Contains site a
    → IsAnswer (live site m (history_of R.bytes)) a (look_up n.tables.first n.tables.long site a)
tables_answer m lent R a c =
    subst (λ (x : Lent). IsAnswer (live site m (history_of R.bytes)) a (look_up x.tables.first x.tables.long site a)) (sym R.lent)
    (demand_2 site m lent (history_of R.bytes) a c)
