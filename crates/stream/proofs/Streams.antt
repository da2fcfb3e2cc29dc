-- The stream of some bytes, record by record; of bytes that come in pieces; and the memory of a history. Assumes nothing.
use mathlib.Core.Path.{◌≡◌, refl, sym, ap, ◌∙◌}
use mathlib.Core.List.{List, [], ◌∷◌, ◌++◌}
use Prim.Native.Nat.{ℕ, zero, suc, ◌-◌, ◌*◌, ◌/◌, ◌%◌, ◌≤◌, ◌<◌}
use native.Mathlib.Omega.{arith}
use lib.ListN.{length, drop, length-drop, length-append}
use lib.Seq.{take-append-le, drop-append-le}
use Rattle.ground.proofs.Tests.{eqb?, cond_on, cond_off, by_test}
use Rattle.prefix.specs.declared.Prefix.{Prefix}
use Rattle.records.specs.declared.Update.{Update}
use Rattle.records.specs.declared.Reading.{Reading}
use Rattle.records.specs.Record.{size, read_as, next_serial}
use Rattle.records.proofs.Accepted.{readable}
use Rattle.records.proofs.RoundTrip.{read_alike}
use Rattle.cells.specs.Memory.{Lent}
use Rattle.history.specs.History.{History, ◌then◌, memory}
use Rattle.updates.specs.Calls.{step}
use Rattle.stream.specs.Stream.{Expects, Refused}
use Rattle.stream.specs.Stream.{Stream, refused_at, first_then, of_records, records_in, stream_of, call_of, goes_on, lent_after}

-- ---- record by record

-- no bytes: the stream stands where it stood
pub stream_none : (bytes : List ℕ) (expected : ℕ) → length bytes ≡ 0 → stream_of bytes expected ≡ record { updates = []; step = Expects expected }
unfolding stream_of of_records
stream_none bytes expected none =
    let n : records_in bytes ≡ 0 = omega arith in
    ap (λ (k : ℕ). of_records k bytes expected) n

-- one record more than n
of_more : (n : ℕ) (bytes : List ℕ) (expected : ℕ) → (read_as bytes expected).code ≡ 0
    → of_records (suc n) bytes expected
    ≡ first_then (read_as bytes expected).update (of_records n (drop size bytes) (next_serial (read_as bytes expected).update.serial))
unfolding of_records
of_more n bytes expected z = cond_on _ _ (eqb? (read_as bytes expected).code 0) z

of_refused : (n : ℕ) (bytes : List ℕ) (expected : ℕ) → ¬ ((read_as bytes expected).code ≡ 0) → of_records (suc n) bytes expected ≡ refused_at (read_as bytes expected).code
unfolding of_records
of_refused n bytes expected z = cond_off _ _ (eqb? (read_as bytes expected).code 0) z

-- a record that is accepted has its 15 bytes
pub accepted_whole : (bytes : List ℕ) (expected : ℕ) → (read_as bytes expected).code ≡ 0 → size ≤ length bytes
accepted_whole bytes expected z = (readable bytes expected z).whole

pub stream_more : (bytes : List ℕ) (expected : ℕ) → (read_as bytes expected).code ≡ 0
    → stream_of bytes expected ≡ first_then (read_as bytes expected).update (stream_of (drop size bytes) (next_serial (read_as bytes expected).update.serial))
unfolding stream_of
stream_more bytes expected z =
    let n : records_in bytes ≡ suc (records_in (drop size bytes)) = omega (arith, accepted_whole bytes expected z, length-drop size bytes) in
    ap (λ (k : ℕ). of_records k bytes expected) n ∙ of_more (records_in (drop size bytes)) bytes expected z

pub stream_refused : (bytes : List ℕ) (expected : ℕ) → 0 < length bytes → ¬ ((read_as bytes expected).code ≡ 0)
    → stream_of bytes expected ≡ refused_at (read_as bytes expected).code
unfolding stream_of
stream_refused bytes expected some z =
    let n : records_in bytes ≡ suc (records_in bytes - 1) = omega arith in
    ap (λ (k : ℕ). of_records k bytes expected) n ∙ of_refused (records_in bytes - 1) bytes expected z

-- no record carries more than one update
of_few : (n : ℕ) (bytes : List ℕ) (expected : ℕ) → length (of_records n bytes expected).updates ≤ n
unfolding of_records
of_few zero bytes expected = omega arith
of_few (suc n) bytes expected =
    by_test (eqb? (read_as bytes expected).code 0)
    (λ z.
    let rest = of_records n (drop size bytes) (next_serial (read_as bytes expected).update.serial) in
    let one : length (of_records (suc n) bytes expected).updates ≡ suc (length rest.updates) = ap (λ (s : Stream). length s.updates) (of_more n bytes expected z) in
    omega (arith, of_few n (drop size bytes) (next_serial (read_as bytes expected).update.serial)))
    (λ z.
    let none : length (of_records (suc n) bytes expected).updates ≡ 0 = ap (λ (s : Stream). length s.updates) (of_refused n bytes expected z) in
    omega arith)

pub stream_few : (bytes : List ℕ) (expected : ℕ) → length (stream_of bytes expected).updates ≤ records_in bytes
unfolding stream_of
stream_few bytes expected = of_few (records_in bytes) bytes expected

-- ---- bytes that come in pieces

-- two streams, one after the other
abbrev joined : Stream → Stream → Stream
joined s r = record { updates = s.updates ++ r.updates; step = r.step }

-- whole records, and then other bytes: reading looks at 15 bytes only
joined_at : (k : ℕ) (xs ys : List ℕ) (expected serial : ℕ) → length xs ≡ size * k → (stream_of xs expected).step ≡ Expects serial
    → stream_of (xs ++ ys) expected ≡ joined (stream_of xs expected) (stream_of ys serial)
joined_at zero [] ys expected serial long goes =
    let none = stream_none [] expected refl in
    let here : Expects expected ≡ Expects serial = sym (ap (λ (s : Stream). s.step) none) ∙ goes in
    let same : expected ≡ serial = cc here in
    ap (stream_of ys) same ∙ ap (λ (s : Stream). joined s (stream_of ys serial)) (sym none)
joined_at zero (x ∷ xs) ys expected serial long goes = absurd (omega arith)
joined_at (suc k) xs ys expected serial long goes =
    by_test (eqb? (read_as xs expected).code 0)
    (λ z.
    let u = (read_as xs expected).update in
    let next = next_serial u.serial in
    let alike : read_as (xs ++ ys) expected ≡ read_as xs expected =
    read_alike (xs ++ ys) xs expected (omega (arith, length-append xs ys)) (omega arith) (take-append-le size xs ys (omega arith)) in
    let first : stream_of xs expected ≡ first_then u (stream_of (drop size xs) next) = stream_more xs expected z in
    let others : stream_of (drop size xs ++ ys) next ≡ joined (stream_of (drop size xs) next) (stream_of ys serial) =
    joined_at k (drop size xs) ys next serial (omega (arith, length-drop size xs)) (sym (ap (λ (s : Stream). s.step) first) ∙ goes) in
    stream_more (xs ++ ys) expected (ap (λ (r : Reading). r.code) alike ∙ z)
    ∙ ap (λ (r : Reading). first_then r.update (stream_of (drop size (xs ++ ys)) (next_serial r.update.serial))) alike
    ∙ ap (λ (b : List ℕ). first_then u (stream_of b next)) (drop-append-le size xs ys (omega arith))
    ∙ ap (first_then u) others
    ∙ ap (λ (s : Stream). joined s (stream_of ys serial)) (sym first))
    (λ z.
    let refused : Refused (read_as xs expected).code ≡ Expects serial =
    sym (ap (λ (s : Stream). s.step) (stream_refused xs expected (omega arith) z)) ∙ goes in
    cc refused)

pub stream_joined : (xs ys : List ℕ) (expected serial : ℕ) → length xs % size ≡ 0 → (stream_of xs expected).step ≡ Expects serial
    → stream_of (xs ++ ys) expected ≡ record { updates = (stream_of xs expected).updates ++ (stream_of ys serial).updates; step = (stream_of ys serial).step }
stream_joined xs ys expected serial whole goes = joined_at (length xs / size) xs ys expected serial (omega arith) goes

pub lent_after_joined : (t : Prefix) (m : Lent) (us vs : List Update) → lent_after t m (us ++ vs) ≡ lent_after t (lent_after t m us) vs
unfolding lent_after
lent_after_joined t m [] vs = refl
lent_after_joined t m (u ∷ us) vs = lent_after_joined t (step t (call_of u) m).lent us vs

-- ---- a history

-- the memory of a history that goes on with some updates
pub memory-goes_on : (t : Prefix) (m : Lent) (h : History) (us : List Update) → memory t m (goes_on h us) ≡ lent_after t (memory t m h) us
unfolding lent_after memory
memory-goes_on t m h [] = refl
memory-goes_on t m h (u ∷ us) = memory-goes_on t m (h then call_of u) us
