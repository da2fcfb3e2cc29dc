-- The cell kind: what a 32-bit word of the tables holds. The fixed numbers stand here and nowhere else. Assumes nothing.
use Rattle.std.specs.Prelude.{ℕ, ◌+◌, ◌-◌, ◌*◌, ◌/◌, ◌%◌, ◌^◌, Bool, ◌&&◌, leb}
use Rattle.prefix.specs.Routes.{last_hop, Match, no_route, via}

-- "no route"
abbrev pub empty : ℕ
empty = 0

-- a direct cell is hop * 64 + length
abbrev pub radix : ℕ
radix = 64

abbrev pub pack : ℕ → ℕ → ℕ
pack hop length = hop * radix + length

abbrev pub hop_of : ℕ → ℕ
hop_of cell = cell / radix

abbrev pub length_of : ℕ → ℕ
length_of cell = cell % radix

-- a hop from 1 to the last, and a length of at most `longest`: 24 in the first table, 32 in the long table
unfoldable pub is_direct : ℕ → ℕ → Bool
is_direct longest cell = leb 1 (hop_of cell) && leb (hop_of cell) last_hop && leb (length_of cell) longest

-- a pointer is 2 ^ 31 + a segment's number, any word from 2 ^ 31 up
abbrev pub pointer_bit : ℕ
pointer_bit = 2 ^ 31

abbrev pub point_to : ℕ → ℕ
point_to segment = pointer_bit + segment

abbrev pub is_pointer : ℕ → Bool
is_pointer cell = leb pointer_bit cell

abbrev pub segment_of : ℕ → ℕ
segment_of cell = cell - pointer_bit

-- the cell of a match
abbrev pub cell_of : Match → ℕ
cell_of no_route = empty
cell_of (via hop length) = pack hop length
