-- What show answers: a number, and a part of one of the two lent tables. Assumes nothing.
use Rattle.std.specs.Prelude.{ℕ, ◌+◌, ◌*◌, ◌/◌, cond, ◌&&◌, List, leb, eqb, length, get_or, take, drop}
use Rattle.std.specs.Borrow.{Bor}
use Rattle.prefix.specs.declared.Prefix.{Prefix}
use Rattle.prefix.specs.Prefixes.{contains}
use Rattle.cells.specs.Cells.{is_pointer, segment_of}
use Rattle.cells.specs.Memory.{lent_to_read}
use Rattle.prefix.specs.Geometry.{block_size, block_of}

-- the cell of the first table for the block that holds the address
abbrev pub first_cell : List ℕ → Prefix → ℕ → ℕ
first_cell first t a = get_or first (block_of t a) 0

unfoldable pub show_code : List ℕ → List ℕ → Prefix → ℕ → ℕ
show_code first long t a =
    cond (lent_to_read (length first) (length long) t)
    (cond (contains t a) (cond (is_pointer (first_cell first t a) && leb (length long / block_size) (segment_of (first_cell first t a))) 4 0) 3)
    1

-- lent cells as a program sees them: where they lie, as the memory they are part of and an offset in bytes there, and what they hold
pub record Seen : Type 0 where
  pub place : ℕ × ℕ
  pub cells : List ℕ

-- what a reference to cells shows
abbrev pub seen : Bor (List ℕ) → Seen
seen r = record { place = r.ref_ptr; cells = r.now }

-- the part of them that starts at a cell; a cell has four bytes
abbrev pub part : Seen → ℕ → ℕ → Seen
part r start count = record { place = (r.place.0, start * 4 + r.place.1); cells = take count (drop start r.cells) }

-- all cells of the segment that the first cell points to, or the one first cell; with a refusal none, at the start of the first table
unfoldable pub shown : Seen → Seen → Prefix → ℕ → Seen
shown first long t a =
    let cell = first_cell first.cells t a in
    cond (eqb (show_code first.cells long.cells t a) 0)
    (cond (is_pointer cell) (part long (segment_of cell * block_size) block_size) (part first (block_of t a) 1))
    (part first 0 0)
