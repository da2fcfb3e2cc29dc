-- The memory that a caller lends: its parts, and the sizes that are asked of them. Assumes nothing.
use Rattle.std.specs.Prelude.{◌≡◌, ℕ, suc, ◌*◌, ◌%◌, ◌≤◌, Bool, true, cond, not, ◌&&◌, List, [], ◌∷◌, leb, ltb, eqb, length, get_or}
use Rattle.prefix.specs.declared.Prefix.{Prefix}
use Rattle.prefix.specs.Geometry.{width, block_size, is_territory, Territory, blocks, block_of}
use Rattle.cells.specs.Cells.{is_pointer}
use Rattle.cells.specs.declared.lent.Lent.{Lent as LentToRead}

-- the first table, the long table, and the owner words
pub record Tables : Type 0 where
  pub first : List ℕ
  pub long : List ℕ
  pub owners : List ℕ

-- what is lent to clear and to the updates: the tables and the rule words
pub record Lent : Type 0 where
  pub tables : Tables
  pub rules : List ℕ

abbrev pub tables_of : (first long owners : List ℕ) → Tables
tables_of first long owners = record { first = first; long = long; owners = owners }

abbrev pub lent_of : (first long owners rules : List ℕ) → Lent
lent_of first long owners rules = record { tables = tables_of first long owners; rules = rules }

-- the memory that is lent to be read
abbrev pub held : LentToRead → Lent
held m = lent_of m.first.now m.long.now m.owners.now m.rules.now

-- ---- sizes, in cells and words

-- there are at most so many segments, and so many rule words
abbrev pub most_segments : ℕ
most_segments = 32768

abbrev pub most_rules : ℕ
most_rules = 65536

-- what is lent to a call that reads: a territory, a cell for each of its blocks, and whole segments, not too many
unfoldable pub lent_to_read : ℕ → ℕ → Prefix → Bool
lent_to_read first long t =
    is_territory t && eqb first (blocks t) && eqb (long % block_size) 0 && leb long (block_size * most_segments)

-- to an update: also an owner word for each segment, and rule words, not too many
unfoldable pub lent_to_update : ℕ → ℕ → ℕ → ℕ → Prefix → Bool
lent_to_update first long owners rules t =
    is_territory t && eqb first (blocks t) && eqb long (block_size * owners) && leb owners most_segments && leb rules most_rules

-- of a memory
abbrev pub is_lent : Prefix → Lent → Bool
is_lent t m =
    let tables = m.tables in
    lent_to_update (length tables.first) (length tables.long) (length tables.owners) (length m.rules) t

-- the tables have their sizes in the territory
pub record Sized (t : Prefix) (tables : Tables) : Type 0 where
  pub territory : Territory t
  pub firsts : length tables.first ≡ blocks t
  pub longs : length tables.long ≡ block_size * length tables.owners
  pub few : length tables.owners ≤ most_segments

-- the statement that `is_lent` decides: all lent memory has its sizes
pub record IsLent (t : Prefix) (m : Lent) : Type 0 where
  pub sized : Sized t m.tables
  pub few_rules : length m.rules ≤ most_rules

-- ---- free words and segments

-- no word is 0
unfoldable pub no_zero : List ℕ → Bool
no_zero [] = true
no_zero (w ∷ ws) = not (eqb w 0) && no_zero ws

-- the lowest free segment, whose owner word is 0; or how many segments there are
unfoldable pub lowest_free : List ℕ → ℕ
lowest_free [] = 0
lowest_free (o ∷ os) = cond (eqb o 0) 0 (suc (lowest_free os))

-- the prefix is longer than 24 and its block has no segment
unfoldable pub needs_segment : Prefix → Prefix → Tables → Bool
needs_segment t p tables = ltb width p.length && not (is_pointer (get_or tables.first (block_of t p.address) 0))
