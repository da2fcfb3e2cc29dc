-- What `read_as` and `write_as` answer where no test refuses, and that a reading tells its outcome.
-- Assumes nothing.
use Rattle.std.proofs.Common.{◌≡◌, Result, Ok, Err, ap, ℕ, ◌≤◌, false, not, List, ◌++◌, length, get_or, drop, ◌∙◌, arith, le-ltb, eq-eqb}
use Rattle.ground.specs.declared.refusal.Refusal.{Refusal}
use Rattle.ground.specs.Refusals.{number}
use Rattle.ground.proofs.Refusals.{number_tells, number_some}
use Rattle.records.specs.BigEndian.{u16_at}
use Rattle.records.specs.Record.{known, stray_hop, encoded, fields, accepted, reading_of, judged, read_as, write_as, Writes}
use Rattle.records.specs.declared.Update.{Update}
use Rattle.records.specs.declared.Reading.{Reading}

-- a reading tells the outcome that it stands for
pub reading_tells : (x y : Result Update Refusal) → reading_of x ≡ reading_of y → x ≡ y
reading_tells (Ok u) (Ok v) same = ap (λ (r : Reading). Ok r.update) same
reading_tells (Ok u) (Err s) same = let number_none : 0 ≡ number s = ap (λ (r : Reading). r.code) same in cc (number_some s)
reading_tells (Err r) (Ok v) same = let number_none : number r ≡ 0 = ap (λ (r : Reading). r.code) same in cc (number_some r)
reading_tells (Err r) (Err s) same = ap (λ e. Err e) (number_tells r s (ap (λ (r : Reading). r.code) same))

-- the fields pass their tests
pub accepts : (u : Update) (expected : ℕ) → not (known u.kind) ≡ false → u.serial ≡ expected → stray_hop u.kind u.hop ≡ false → accepted u ≡ judged u expected
accepts u expected k s h = simp (k, eq-eqb u.serial expected s, h)

-- the tests of read before those are passed
pub goes_on_lem : (bytes : List ℕ) (expected : ℕ) → u16_at bytes 0 ≡ 13 → 15 ≤ length bytes → get_or bytes 2 0 ≡ 1 → judged (fields bytes) expected ≡ read_as bytes expected
unfolding read_as
goes_on_lem bytes expected l whole v =
    simp (le-ltb (length bytes) 2 (omega arith), eq-eqb (u16_at bytes 0) 13 l, le-ltb (length bytes) 15 whole, eq-eqb (get_or bytes 2 0) 1 v)

-- the tests of write are passed
pub fills : (room : List ℕ) (u : Update) → 15 ≤ length room → not (known u.kind) ≡ false → (after : List ℕ) → stray_hop u.kind u.hop ≡ false → after ≡ encoded u ++ drop 15 room → Writes room u 0 after
unfolding write_as
fills room u enough k after h e =
    record { code = simp (le-ltb (length room) 15 enough, k, h); room = e ∙ simp (le-ltb (length room) 15 enough, k, h) }
