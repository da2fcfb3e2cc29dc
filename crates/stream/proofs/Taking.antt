-- What holds before each record of a loop over some bytes: the records that are left lead, from the memory as it is, where all of them
-- lead from the memory at entry. Assumes nothing.
use Rattle.std.proofs.Common.{◌≡◌, refl, sym, ap, ap₂, subst, ◌∙◌, ℕ, suc, ◌+◌, ◌≤◌, ◌<◌, min, arith, Result, Ok, Err}
use Rattle.std.proofs.Common.{List, [], ◌∷◌, ◌++◌, append-nil, append_assoc, length, set, take, drop, length-append, length-set}
use Rattle.std.proofs.Common.{take-append-drop, drop-drop, drop_at}
use Rattle.std.proofs.lemmas.List.{take-append-le, take_more_set, drop-set-lt, nil_from_length}
use Rattle.ground.specs.declared.refusal.Refusal.{Refusal}
use Rattle.ground.specs.Refusals.{number}
use Rattle.ground.proofs.Refusals.{number_some}
use Rattle.ground.proofs.Tests.{eqb?, by_test}
use Rattle.prefix.specs.declared.Prefix.{Prefix}
use Rattle.records.specs.declared.Reading.{Reading}
use Rattle.records.specs.Record.{size, read_as, next_serial}
use Rattle.records.proofs.RoundTrip.{read_alike}
use Rattle.cells.specs.Memory.{Lent}
use Rattle.updates.specs.Calls.{Outcome}
use Rattle.stream.specs.declared.Line.{Line}
use Rattle.stream.specs.Stream.{Stream, step_of, refused_at, first_then, stream_of, records_in, lent_after, lines_of}
use Rattle.stream.specs.Taking.{TurnIs, TakenIs}
use Rattle.stream.proofs.Streams.{stream_none, stream_more, stream_refused, accepted_whole}

-- what the next chunk of 15 bytes is: the start of what is left, and all of it where no 15 are left
pub record Cut (rest chunk others : List ℕ) : Type 0 where
  pub parts : rest ≡ chunk ++ others
  pub long : length chunk ≡ min 15 (length rest)
  pub some : 0 < length rest

pub cut_by : {n : ℕ} {rest chunk others : List ℕ} → n ≡ 15 → (rest ≡ chunk ++ others) × (length chunk ≡ min n (length rest)) × (0 < length rest)
    → Cut rest chunk others
cut_by {rest = rest} fifteen step = record { parts = step.0; long = step.1 ∙ ap (λ (k : ℕ). min k (length rest)) fifteen; some = step.2 }

-- reading the chunk is reading what is left
cut_alike : {rest chunk others : List ℕ} → Cut rest chunk others → (next : ℕ) → read_as rest next ≡ read_as chunk next
cut_alike {rest} {chunk} {others} C next =
    let all : length rest ≡ length chunk + length others = ap length C.parts ∙ length-append chunk others in
    by_test (eqb? (length others) 0)
    (λ z. ap (λ (b : List ℕ). read_as b next) (C.parts ∙ ap (λ (ys : List ℕ). chunk ++ ys) (nil_from_length others z) ∙ append-nil chunk))
    (λ z.
    let whole : 15 ≤ length chunk = omega (arith, C.long) in
    read_alike rest chunk next (omega arith) whole (ap (take 15) C.parts ∙ take-append-le 15 chunk others whole))

module _ (t : Prefix) (bytes : List ℕ) (expected : ℕ) (m : Lent) (lines : List Line) where
  -- before the record that `rest` begins with, with `count` taken: n is the memory, and ls the lines
  pub record Going (n : Lent) (ls : List Line) (next count : ℕ) (rest : List ℕ) : Type 0 where
    pub stands : (stream_of rest next).step ≡ (stream_of bytes expected).step
    pub counted : count + length (stream_of rest next).updates ≡ length (stream_of bytes expected).updates
    pub lent : lent_after t n (stream_of rest next).updates ≡ lent_after t m (stream_of bytes expected).updates
    pub room : count + records_in rest ≤ length ls
    pub put : take count ls ++ lines_of t n (stream_of rest next).updates ≡ lines_of t m (stream_of bytes expected).updates
    pub kept : drop count ls ≡ drop count lines

  pub going_start : {rest : List ℕ} → rest ≡ bytes → records_in bytes ≤ length lines → Going m lines expected 0 rest
  going_start whole room =
      subst (Going m lines expected 0) (sym whole)
      (record { stands = refl; counted = omega arith; lent = refl; room = omega arith; put = refl; kept = refl })

  -- no record is left, or none that is accepted: that is what all bytes come to
  ends : {n : Lent} {ls : List Line} {next count : ℕ} {rest : List ℕ} {step : Result ℕ Refusal} → Going n ls next count rest
      → stream_of rest next ≡ record { updates = []; step = step_of step }
      → TakenIs t bytes expected m lines (record { step = step; count = count }) n ls
  unfolding lent_after lines_of
  ends {n} {ls} {next} {count} {rest} {step} G e =
      let none : length (stream_of rest next).updates ≡ 0 = ap (λ (x : Stream). length x.updates) e in
      record {
        stands = sym (ap (λ (x : Stream). x.step) e) ∙ G.stands;
        count = omega (arith, G.counted);
        lent = sym (ap (λ (x : Stream). lent_after t n x.updates) e) ∙ G.lent;
        printed =
            sym (take-append-drop count ls)
            ∙ ap₂ ◌++◌ (sym (append-nil (take count ls)) ∙ sym (ap (λ (x : Stream). take count ls ++ lines_of t n x.updates) e) ∙ G.put) G.kept;
      }

  pub going_done : {n : Lent} {ls : List Line} {next count : ℕ} {rest : List ℕ} → Going n ls next count rest → length rest ≡ 0
      → TakenIs t bytes expected m lines (record { step = Ok next; count = count }) n ls
  going_done {next = next} {rest = rest} G all = ends G (stream_none rest next all)

  -- there is room for the next line
  pub going_room : {n : Lent} {ls : List Line} {next count : ℕ} {rest chunk others : List ℕ} → Going n ls next count rest → Cut rest chunk others
      → count < length ls
  going_room G C = omega (arith, G.room, C.some)

  module _ {n n' : Lent} {ls : List Line} {next count : ℕ} {rest chunk others : List ℕ} (G : Going n ls next count rest) (C : Cut rest chunk others) where
    pub going_refused : {r : Refusal} → TurnIs t chunk next n (Err r) n' → TakenIs t bytes expected m lines (record { step = Err r; count = count }) n' ls
    going_refused {r} T =
        let number_is : number r ≡ (read_as rest next).code = T.number ∙ sym (ap (λ (x : Reading). x.code) (cut_alike C next)) in
        let e = stream_refused rest next C.some (λ z. let zero : number r ≡ 0 = number_is ∙ z in cc (number_some r)) in
        let at_entry : TakenIs t bytes expected m lines (record { step = Err r; count = count }) n ls =
        ends G (e ∙ ap refused_at (sym number_is)) in
        record { stands = at_entry.stands; count = at_entry.count; lent = T.kept ∙ at_entry.lent; printed = at_entry.printed }

    pub going_more : {line : Line} {next' : ℕ} → TurnIs t chunk next n (Ok line) n' → next' ≡ next_serial line.serial
        → Going n' (set ls count line) next' (count + 1) others
    unfolding lent_after lines_of
    going_more {line} {next'} T follows =
        let reading = cut_alike C next in
        let z : (read_as rest next).code ≡ 0 = ap (λ (x : Reading). x.code) reading ∙ sym T.number in
        let whole = accepted_whole chunk next (sym T.number) in
        let u = (read_as chunk next).update in
        let left : drop size rest ≡ others =
        let fifteen : length chunk ≡ size = omega (arith, C.long, whole) in
        ap (drop size) C.parts ∙ drop_at chunk others size fifteen in
        let after = stream_of others next' in
        let e : stream_of rest next ≡ first_then u after =
        stream_more rest next z
        ∙ ap (λ (x : Reading). first_then x.update (stream_of (drop size rest) (next_serial x.update.serial))) reading
        ∙ ap (λ (b : List ℕ). first_then u (stream_of b (next_serial u.serial))) left
        ∙ ap (λ (k : ℕ). first_then u (stream_of others k)) (sym (follows ∙ ap next_serial T.serial)) in
        let one : length (stream_of rest next).updates ≡ suc (length after.updates) = ap (λ (x : Stream). length x.updates) e in
        let below = going_room G C in
        record {
          stands = sym (ap (λ (x : Stream). x.step) e) ∙ G.stands;
          counted = omega (arith, G.counted);
          lent =
              ap (λ (x : Outcome). lent_after t x.lent after.updates) T.taken
              ∙ sym (ap (λ (x : Stream). lent_after t n x.updates) e) ∙ G.lent;
          room = omega (arith, length-set ls count line, G.room, ap length C.parts, length-append chunk others, whole);
          put =
              ap (λ (done : List Line). done ++ lines_of t n' after.updates) (take_more_set ls count line below)
              ∙ append_assoc (take count ls) (line ∷ []) (lines_of t n' after.updates)
              ∙ ap (λ (k : ℕ). take count ls ++ (record { serial = k; code = line.code; cells = line.cells } ∷ lines_of t n' after.updates)) T.serial
              ∙ ap (λ (x : Outcome). take count ls ++ (record { serial = u.serial; code = x.report.code; cells = x.report.cells } ∷ lines_of t x.lent after.updates)) T.taken
              ∙ sym (ap (λ (x : Stream). take count ls ++ lines_of t n x.updates) e)
              ∙ G.put;
          kept =
              drop-set-lt (count + 1) ls count line (omega arith)
              ∙ sym (drop-drop 1 count ls) ∙ ap (drop 1) G.kept ∙ drop-drop 1 count lines;
        }
