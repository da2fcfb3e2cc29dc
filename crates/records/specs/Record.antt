-- Update records: the bytes of an update, what read answers for any bytes, and what write answers and leaves for any room.
-- Assumes nothing.
use Rattle.std.specs.Prelude.{◌≡◌, ℕ, ◌+◌, ◌%◌, ◌^◌, ◌<◌, Bool, cond, not, ◌&&◌, ◌||◌, List, [], ◌∷◌, ◌++◌, length, drop, ◌==◌, nat_lt, slice_index, Result, Ok, Err}
use Rattle.ground.specs.declared.refusal.Refusal.{Refusal}
use Rattle.ground.specs.declared.refusal.Refusal.TheVariants.{WrongKind}
use Rattle.ground.specs.Refusals.{number}
use Rattle.records.specs.BigEndian.{u16_at, u32_at, split2, split4}
use Rattle.records.specs.declared.Kind.{Kind}
use Rattle.records.specs.declared.Kind.TheVariants.{Announce, Withdraw, ReHome}
use Rattle.records.specs.declared.Update.{Update}
use Rattle.records.specs.declared.Reading.{Reading}

-- an update's fields have the widths of the record
pub record Widths (u : Update) : Type 0 where
  pub kind : u.kind < 2 ^ 8
  pub serial : u.serial < 2 ^ 32
  pub address : u.address < 2 ^ 32
  pub length : u.length < 2 ^ 8
  pub hop : u.hop < 2 ^ 16

-- the bytes of a record, what its length field says, and its version
abbrev pub size : ℕ
size = 15

abbrev pub length_field : ℕ
length_field = 13

abbrev pub version : ℕ
version = 1

-- the kinds
abbrev pub announce : ℕ
announce = 1

abbrev pub withdraw : ℕ
withdraw = 2

abbrev pub re_home : ℕ
re_home = 3

abbrev pub known : ℕ → Bool
known kind = kind == announce || kind == withdraw || kind == re_home

-- the byte of a kind, and the kind of a byte
abbrev pub byte_of : Kind → ℕ
byte_of Announce = announce
byte_of Withdraw = withdraw
byte_of ReHome = re_home

abbrev pub kind_of : ℕ → Result Kind Refusal
kind_of byte =
    cond (byte == announce) (Ok Announce)
    (cond (byte == withdraw) (Ok Withdraw)
    (cond (byte == re_home) (Ok ReHome)
    (Err WrongKind)))

-- a withdraw with a hop that is not 0
abbrev pub stray_hop : ℕ → ℕ → Bool
stray_hop kind hop = kind == withdraw && not (hop == 0)

-- the 15 bytes of an update: length, version, kind, serial, address, prefix length, hop
abbrev pub encoded : Update → List ℕ
encoded u = split2 length_field ++ (version ∷ u.kind ∷ []) ++ split4 u.serial ++ split4 u.address ++ (u.length ∷ []) ++ split2 u.hop

-- the update that the first 15 bytes hold
abbrev pub fields : List ℕ → Update
fields bytes = record { kind = slice_index bytes 3; serial = u32_at bytes 4; address = u32_at bytes 8; length = slice_index bytes 12; hop = u16_at bytes 13 }

-- a refusal returns its number and an all-zero update
abbrev pub refusal : ℕ → Reading
refusal code = record { code = code; update = record { kind = 0; serial = 0; address = 0; length = 0; hop = 0 } }

abbrev pub accepted : Update → Reading
accepted u = record { code = 0; update = u }

-- the outcome of a read in the paper's numbers
abbrev pub reading_of : Result Update Refusal → Reading
reading_of (Ok u) = accepted u
reading_of (Err r) = refusal (number r)

-- the tests run in the order written, and the first that passes refuses: those on the fields, and those of read before them
abbrev pub judged : Update → ℕ → Reading
judged u expected =
    cond (not (known u.kind)) (refusal 23)
    (cond (not (u.serial == expected)) (refusal 24)
    (cond (stray_hop u.kind u.hop) (refusal 25)
    (accepted u)))

unfoldable pub read_as : List ℕ → ℕ → Reading
read_as bytes expected =
    cond (nat_lt (length bytes) 2) (refusal 20)
    (cond (not (u16_at bytes 0 == length_field)) (refusal 21)
    (cond (nat_lt (length bytes) size) (refusal 20)
    (cond (not (slice_index bytes 2 == version)) (refusal 22)
    (judged (fields bytes) expected))))

-- a number, and the content of the room at exit
pub record Written : Type 0 where
  pub code : ℕ
  pub room : List ℕ

-- what write answers and leaves: a refused write leaves the room as it was, and an accepted one fills the first 15 bytes and no other
unfoldable pub write_as : List ℕ → Update → Written
write_as room u =
    cond (nat_lt (length room) size) (record { code = 26; room = room })
    (cond (not (known u.kind)) (record { code = 23; room = room })
    (cond (stray_hop u.kind u.hop) (record { code = 25; room = room })
    (record { code = 0; room = encoded u ++ drop size room })))

-- the contract of write, of the room at entry, the update, the number and the room at exit
pub record Writes (before : List ℕ) (u : Update) (number : ℕ) (after : List ℕ) : Type 0 where
  pub code : number ≡ (write_as before u).code
  pub room : after ≡ (write_as before u).room

-- the serial that a stream expects after an accepted record: one more, and 0 after 4294967295
abbrev pub next_serial : ℕ → ℕ
next_serial serial = (serial + 1) % 2 ^ 32
