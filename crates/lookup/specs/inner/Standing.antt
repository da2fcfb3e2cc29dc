-- The tests that come before any cell is read, as the one number that they answer. Assumes nothing.
use Rattle.std.specs.Prelude.{ℕ, ◌*◌, ◌%◌, Bool, cond, ◌&&◌, leb, eqb}
use Rattle.prefix.specs.declared.Prefix.{Prefix}
use Rattle.prefix.specs.Prefixes.{contains}
use Rattle.prefix.specs.Geometry.{is_territory, blocks, block_size}
use Rattle.cells.specs.Memory.{most_segments, lent_to_read}

-- what is lent is right, where first and long count cells in parts, `unit` to a cell: 1 for cells themselves, 4 for bytes
unfoldable pub lent_by : ℕ → ℕ → ℕ → Prefix → Bool
lent_by unit first long t =
    is_territory t && eqb first (unit * blocks t) && eqb (long % (unit * block_size)) 0 && leb long (unit * (block_size * most_segments))

-- the number of the refusal, or 0
unfoldable pub standing_by : ℕ → ℕ → ℕ → Prefix → ℕ → ℕ
standing_by unit first long t a = cond (lent_by unit first long t) (cond (contains t a) 0 3) 1

-- the same in cells (`in_cells`, proofs/Reading.antt)
unfoldable pub standing_of : ℕ → ℕ → Prefix → ℕ → ℕ
standing_of first long t a = cond (lent_to_read first long t) (cond (contains t a) 0 3) 1
