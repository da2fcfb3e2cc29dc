-- What each pass makes of one answer. The room for the answers holds in turn a place in the first table, the cell there or the
-- marked answer where that is a pointer, and the answer. Assumes nothing.
use Rattle.std.specs.Prelude.{ℕ, ◌+◌, ◌-◌, ◌%◌, cond, List, ltb}
use Rattle.prefix.specs.Geometry.{width, block_size, block_from}
use Rattle.cells.specs.Cells.{pointer_bit, is_pointer}
use Rattle.lookup.specs.Lookup.{refused, verdict_of, says_of, packed}

-- the block where the territory has it, else 0
unfoldable pub place_of : ℕ → ℕ → ℕ → ℕ
place_of base blocks address = cond (ltb (block_from base address) blocks) (block_from base address) 0

-- a cell of the first table as it is, and of a pointer what it says, marked: no answer has a pointer's bit
unfoldable pub fetched_of : List ℕ → ℕ → ℕ → ℕ
fetched_of long address cell = cond (is_pointer cell) (pointer_bit + packed (says_of long (address % block_size) cell)) cell

-- the answer that is marked, or what the cell says
unfoldable pub verdict_or_marked : ℕ → ℕ
verdict_or_marked word = cond (is_pointer word) (word - pointer_bit) (packed (verdict_of width word))

-- that in the territory, and refusal 3 outside it
unfoldable pub judged_of : ℕ → ℕ → ℕ → ℕ → ℕ
judged_of base blocks address word = cond (ltb (block_from base address) blocks) (verdict_or_marked word) (packed (refused 3))
