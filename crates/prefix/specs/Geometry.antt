-- The geometry of the tables: the width of the first one, blocks, the territory, and the blocks that a prefix touches in it. Assumes nothing.
use Rattle.std.specs.Prelude.{ℕ, ◌+◌, ◌-◌, ◌*◌, ◌/◌, ◌%◌, ◌^◌, ◌≤◌, Bool, ◌&&◌, nat_le}
use Rattle.prefix.specs.declared.Prefix.{Prefix}
use Rattle.prefix.specs.declared.geometry.Blocks.{Blocks}
use Rattle.prefix.specs.Prefixes.{well_formed, WellFormed}

-- a block is the addresses that share their first 24 bits, a /24: the first table has a cell for each
abbrev pub width : ℕ
width = 24

-- how many addresses a block has, and how many cells a segment
abbrev pub block_size : ℕ
block_size = 256

-- a territory is a well-formed prefix of length 0 to 24
unfoldable pub is_territory : Prefix → Bool
is_territory t = nat_le t.length width && well_formed t

-- and as the statement that it decides
pub record Territory (t : Prefix) : Type 0 where
  pub wide : t.length ≤ width
  pub formed : WellFormed t

-- how many runs of addresses that share their first w bits a prefix has: those that it contains, or the one that contains it
abbrev pub runs : ℕ → Prefix → ℕ
runs w p = 2 ^ (w - p.length)

-- how many blocks
abbrev pub blocks : Prefix → ℕ
blocks p = runs width p

-- the number of the block that holds the address, within the territory
abbrev pub block_of : Prefix → ℕ → ℕ
block_of t a = (a - t.address) / block_size

-- the same from the base on and round the end of the addresses: below `blocks` exactly for an address of the territory
abbrev pub block_from : ℕ → ℕ → ℕ
block_from base address = (address + 2 ^ 32 - base) % 2 ^ 32 / block_size

-- the first address of the block k of the territory t
abbrev pub block_start : Prefix → ℕ → ℕ
block_start t k = t.address + block_size * k

-- the blocks that a prefix of the territory touches: the first, and how many there are
abbrev pub touched : Prefix → Prefix → Blocks
touched t p = record { from = block_of t p.address; count = blocks p }
