-- The tests that an accepted record has passed, taken from its code 0. Assumes nothing.
use Rattle.std.proofs.Common.{◌≡◌, ℕ, ◌<◌, ◌≤◌, Bool, true, false, cond, not, eqb, ltb, List, length, get_or, refl, arith, lit<, ltb-false, eqb-true}
use borrow.Author.Tests.{not-false}
use Rattle.records.specs.BigEndian.{u16_at}
use Rattle.records.specs.Record.{known, stray_hop, fields, read_as, Written, write_as}
use Rattle.records.specs.declared.Update.{Update}
use Rattle.records.specs.declared.Reading.{Reading}

-- a code of 0 is not that of a refusal, so the test was not passed, and what follows has the code 0
module _ {A : Type 0} (code : A → ℕ) (refused next : A) (above : 0 < code refused) where
  past : (t : Bool) → code (cond t refused next) ≡ 0 → (t ≡ false) × (code next ≡ 0)
  past true e = absurd (omega arith)
  past false e = (refl, e)

abbrev read_code : Reading → ℕ
read_code r = r.code

abbrev write_code : Written → ℕ
write_code w = w.code

pub record Writable (room : List ℕ) (u : Update) : Type 0 where
  pub enough : 15 ≤ length room
  pub kind : not (known u.kind) ≡ false
  pub hop : stray_hop u.kind u.hop ≡ false

pub writable : (room : List ℕ) (u : Update) → (write_as room u).code ≡ 0 → Writable room u
unfolding write_as
writable room u e =
    let a = past write_code _ _ (lit< tt) (ltb (length room) 15) e in
    let b = past write_code _ _ (lit< tt) (not (known u.kind)) a.1 in
    let c = past write_code _ _ (lit< tt) (stray_hop u.kind u.hop) b.1 in
    record { enough = ltb-false _ _ a.0; kind = b.0; hop = c.0 }

pub record Readable (bytes : List ℕ) (expected : ℕ) : Type 0 where
  pub length_field_lem : u16_at bytes 0 ≡ 13
  pub whole : 15 ≤ length bytes
  pub version : get_or bytes 2 0 ≡ 1
  pub kind : not (known (fields bytes).kind) ≡ false
  pub serial : (fields bytes).serial ≡ expected
  pub hop : stray_hop (fields bytes).kind (fields bytes).hop ≡ false

pub readable : (bytes : List ℕ) (expected : ℕ) → (read_as bytes expected).code ≡ 0 → Readable bytes expected
unfolding read_as
readable bytes expected e =
    let a = past read_code _ _ (lit< tt) (ltb (length bytes) 2) e in
    let b = past read_code _ _ (lit< tt) (not (eqb (u16_at bytes 0) 13)) a.1 in
    let c = past read_code _ _ (lit< tt) (ltb (length bytes) 15) b.1 in
    let d = past read_code _ _ (lit< tt) (not (eqb (get_or bytes 2 0) 1)) c.1 in
    let f = past read_code _ _ (lit< tt) (not (known (fields bytes).kind)) d.1 in
    let g = past read_code _ _ (lit< tt) (not (eqb (fields bytes).serial expected)) f.1 in
    let h = past read_code _ _ (lit< tt) (stray_hop (fields bytes).kind (fields bytes).hop) g.1 in
    record {
      length_field_lem = eqb-true _ _ (not-false _ b.0);
      whole = ltb-false _ _ c.0;
      version = eqb-true _ _ (not-false _ d.0);
      kind = f.0;
      serial = eqb-true _ _ (not-false _ g.0);
      hop = h.0;
    }
