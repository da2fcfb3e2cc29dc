-- Damage: refusal 4 of an update, as a test of the lent memory and the prefix. Assumes nothing.
use Rattle.std.specs.Prelude.{ℕ, ◌+◌, ◌*◌, Bool, cond, not, ◌&&◌, ◌||◌, List, ltb, eqb, length, get_or}
use Rattle.ground.specs.Lists.{every_below}
use Rattle.prefix.specs.declared.Prefix.{Prefix}
use Rattle.prefix.specs.Price.{is_open}
use Rattle.prefix.specs.Geometry.{width, block_size, block_start, touched}
use Rattle.prefix.specs.declared.Route.{Route}
use Rattle.cells.specs.Cells.{empty, is_direct, is_pointer, segment_of}
use Rattle.cells.specs.Memory.{Tables, Lent}
use Rattle.rules.specs.Rules.{routes, formed}

-- a cell is 0 or direct, with a length of at most `longest`
abbrev pub is_clean : ℕ → ℕ → Bool
is_clean longest cell = eqb cell empty || is_direct longest cell

-- segment s is lent, its owner word is the block's number + 1, and each of its cells is 0 or direct
unfoldable pub segment_sound : Tables → ℕ → ℕ → Bool
segment_sound tables block s =
    ltb s (length tables.owners) && eqb (get_or tables.owners s 0) (block + 1)
    && every_below block_size (λ i. is_clean 32 (get_or tables.long (s * block_size + i) 0))

-- the block's first cell is a pointer to a sound segment, and open_now says that a live prefix longer than 24 lies in the block; or the
-- cell is 0 or direct, and none does
unfoldable pub sound_by : Tables → ℕ → Bool → Bool
sound_by tables block open_now =
    let cell = get_or tables.first block 0 in
    cond (is_pointer cell) (segment_sound tables block (segment_of cell) && open_now) (is_clean width cell && not open_now)

-- the block is sound, with the routes rs live
unfoldable pub block_sound : Prefix → List Route → Tables → ℕ → Bool
block_sound t rs tables block = sound_by tables block (is_open rs (block_start t block))

-- each block that the prefix touches is sound
unfoldable pub blocks_sound : Prefix → Prefix → List Route → Tables → Bool
blocks_sound t p rs tables = every_below (touched t p).count (λ i. block_sound t rs tables ((touched t p).from + i))

-- the rule words have their order and form, inside the territory, and the touched blocks are sound
unfoldable pub undamaged : Prefix → Prefix → Lent → Bool
undamaged t p m = formed t m.rules && blocks_sound t p (routes m.rules) m.tables
