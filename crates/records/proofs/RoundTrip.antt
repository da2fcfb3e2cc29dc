-- What is written is read back, and what was read is written back; read looks at the first 15 bytes only. All is said of the definitions
-- that the contracts cite. Assumes nothing.
use Rattle.std.proofs.Common.{◌≡◌, ℕ, zero, suc, ◌+◌, ◌/◌, ◌%◌, ◌^◌, ◌<◌, ◌≤◌, List, [], ◌∷◌, ◌++◌, length, get_or, take, drop, sym, refl, ap, ◌∙◌, subst, arith, le-ltb}
use Rattle.ground.proofs.Table.{tabulate}
use Rattle.records.specs.BigEndian.{u16_at, u32_at, split2, split4}
use Rattle.records.specs.Record.{Widths, encoded, fields, accepted, judged, read_as, Writes}
use Rattle.records.specs.declared.Update.{Update}
use Rattle.records.specs.declared.Reading.{Reading}
use Rattle.records.proofs.Accepted.{writable, readable}
use Rattle.records.proofs.Laws.{accepts, goes_on_lem, fills}

-- ---- written, then read

fields-encoded : (u : Update) → Widths u → (rest : List ℕ) → fields (encoded u ++ rest) ≡ u
fields-encoded u w rest =
    let s : (fields (encoded u ++ rest)).serial ≡ u.serial = omega (arith, w.serial) in
    let a : (fields (encoded u ++ rest)).address ≡ u.address = omega (arith, w.address) in
    let h : (fields (encoded u ++ rest)).hop ≡ u.hop = omega (arith, w.hop) in simp (s, a, h)

-- an update that write accepts into a room is read back from that room's content at exit, under its own serial
pub read_back : (room after : List ℕ) (u : Update) → Widths u → Writes room u 0 after → read_as after u.serial ≡ accepted u
read_back room after u w o =
    let p = writable room u (sym o.code) in
    let bytes = encoded u ++ drop 15 room in
    let left = fills room u p.enough p.kind bytes p.hop refl in
    ap (λ (l : List ℕ). read_as l u.serial) (o.room ∙ sym left.room)
    ∙ sym (goes_on_lem bytes u.serial refl (omega arith) refl)
    ∙ ap (λ (v : Update). judged v u.serial) (fields-encoded u w (drop 15 room))
    ∙ sym (accepts u u.serial p.kind refl p.hop)

-- ---- read, then written

take_tabulated : (n : ℕ) (l : List ℕ) → n ≤ length l → take n l ≡ tabulate n (λ (i : ℕ). get_or l i 0)
take_tabulated zero l h = refl
take_tabulated (suc n) [] h = absurd (omega arith)
take_tabulated (suc n) (x ∷ l) h = ap (λ (r : List ℕ). x ∷ r) (take_tabulated n l (omega arith))

module _ (bytes : List ℕ) (byte : (i : ℕ) → i < length bytes → get_or bytes i 0 < 2 ^ 8) where
  -- the bytes of the number that bytes spell
  split_two : (i : ℕ) → i + 2 ≤ length bytes → split2 (u16_at bytes i) ≡ get_or bytes i 0 ∷ get_or bytes (i + 1) 0 ∷ []
  split_two i h =
      let a = byte i (omega arith) in
      let b = byte (i + 1) (omega arith) in
      let p : u16_at bytes i / 2 ^ 8 ≡ get_or bytes i 0 = omega arith in
      let q : u16_at bytes i % 2 ^ 8 ≡ get_or bytes (i + 1) 0 = omega arith in simp (p, q)

  split_four : (i : ℕ) → i + 4 ≤ length bytes → split4 (u32_at bytes i) ≡ get_or bytes i 0 ∷ get_or bytes (i + 1) 0 ∷ get_or bytes (i + 2) 0 ∷ get_or bytes (i + 3) 0 ∷ []
  split_four i h =
      let a = byte i (omega arith) in
      let b = byte (i + 1) (omega arith) in
      let c = byte (i + 2) (omega arith) in
      let d = byte (i + 3) (omega arith) in
      let p : u32_at bytes i / 2 ^ 24 ≡ get_or bytes i 0 = omega arith in
      let q : u32_at bytes i / 2 ^ 16 % 2 ^ 8 ≡ get_or bytes (i + 1) 0 = omega arith in
      let r : u32_at bytes i / 2 ^ 8 % 2 ^ 8 ≡ get_or bytes (i + 2) 0 = omega arith in
      let s : u32_at bytes i % 2 ^ 8 ≡ get_or bytes (i + 3) 0 = omega arith in simp (p, q, r, s)

  encoded-fields : 15 ≤ length bytes → u16_at bytes 0 ≡ 13 → get_or bytes 2 0 ≡ 1 → encoded (fields bytes) ≡ take 15 bytes
  encoded-fields h l v =
      let n = ap split2 (sym l) ∙ split_two 0 (omega arith) in
      let s = split_four 4 (omega arith) in
      let a = split_four 8 (omega arith) in
      let p = split_two 13 (omega arith) in
      let t = take_tabulated 15 bytes h in cc

  -- the update of a record that read accepts is written, into any room of 15 bytes or more, as the same 15 bytes; the rest of the room stays
  pub written_back : (expected : ℕ) (room : List ℕ) → (read_as bytes expected).code ≡ 0 → 15 ≤ length room → Writes room (read_as bytes expected).update 0 (take 15 bytes ++ drop 15 room)
  written_back expected room e enough =
      let p = readable bytes expected e in
      let got = accepts (fields bytes) expected p.kind p.serial p.hop ∙ goes_on_lem bytes expected p.length_field_lem p.whole p.version in
      let same = ap (λ (l : List ℕ). l ++ drop 15 room) (encoded-fields p.whole p.length_field_lem p.version) in
      subst (λ (r : Reading). Writes room r.update 0 (take 15 bytes ++ drop 15 room)) got
      (fills room (fields bytes) enough p.kind (take 15 bytes ++ drop 15 room) p.hop (sym same))

-- ---- read looks at the first 15 bytes only

pub read_alike : (a b : List ℕ) (expected : ℕ) → 15 ≤ length a → 15 ≤ length b → take 15 a ≡ take 15 b → read_as a expected ≡ read_as b expected
unfolding read_as
read_alike a b expected ha hb e =
    let l = sym (take_tabulated 15 a ha) ∙ e ∙ take_tabulated 15 b hb in
    cc (le-ltb (length a) 2 (omega arith), le-ltb (length b) 2 (omega arith), le-ltb (length a) 15 ha, le-ltb (length b) 15 hb)
