-- What look up answers, for any numbers and any words: refusals 1, 3, 4 and 8 in this order, each under exactly its condition.
-- Assumes nothing.
use Rattle.std.specs.Prelude.{ℕ, ◌+◌, ◌*◌, ◌/◌, ◌%◌, ◌^◌, cond, List, ltb, eqb, length, get_or, Result, Ok, Err}
use Rattle.ground.specs.declared.refusal.Refusal.{Refusal}
use Rattle.ground.specs.Refusals.{number}
use Rattle.prefix.specs.declared.Prefix.{Prefix}
use Rattle.cells.specs.Memory.{lent_to_read}
use Rattle.prefix.specs.Prefixes.{contains}
use Rattle.prefix.specs.Geometry.{width, block_size, block_of}
use Rattle.lookup.specs.declared.look.Won.{Won}
use Rattle.cells.specs.Cells.{empty, hop_of, length_of, is_direct, is_pointer, segment_of}

-- a refusal's number, and 0 twice; or 0, the length of the prefix that won, and its hop
pub record Answer : Type 0 where
  pub code : ℕ
  pub length : ℕ
  pub hop : ℕ

-- a refusal has length 0 and hop 0
abbrev pub refused : ℕ → Answer
refused code = record { code = code; length = 0; hop = 0 }

-- the length of the prefix that won, and its hop
abbrev pub found : ℕ → ℕ → Answer
found length hop = record { code = 0; length = length; hop = hop }

-- the answer that a call's outcome stands for
abbrev pub answer_of : Result Won Refusal → Answer
answer_of (Ok won) = found won.length won.hop
answer_of (Err refusal) = refused (number refusal)

-- what the deciding cell says: 0 is no route, a direct cell its length and hop, and anything else is damage
abbrev pub direct_or_damage : ℕ → ℕ → Answer
direct_or_damage longest cell = cond (is_direct longest cell) (found (length_of cell) (hop_of cell)) (refused 4)

unfoldable pub verdict_of : ℕ → ℕ → Answer
verdict_of longest cell = cond (eqb cell empty) (refused 8) (direct_or_damage longest cell)

-- what a cell of the first table says: a pointer hands on to the cell at `low` of its segment, if that is lent; any other decides
unfoldable pub says_of : List ℕ → ℕ → ℕ → Answer
says_of long low cell =
    cond (is_pointer cell)
    (cond (ltb (segment_of cell) (length long / block_size)) (verdict_of 32 (get_or long (segment_of cell * block_size + low) 0)) (refused 4))
    (verdict_of width cell)

unfoldable pub look_up : List ℕ → List ℕ → Prefix → ℕ → Answer
look_up first long t a =
    cond (lent_to_read (length first) (length long) t)
    (cond (contains t a) (says_of long (a % block_size) (get_or first (block_of t a) 0)) (refused 3))
    (refused 1)

-- ---- an answer as one number

abbrev pub packed : Answer → ℕ
packed answer = answer.code * 2 ^ 22 + answer.length * 2 ^ 16 + answer.hop

-- its parts: a length is below 2 ^ 6, and a hop below 2 ^ 16
abbrev pub unpacked_of : ℕ → Answer
unpacked_of number = record { code = number / 2 ^ 22; length = number / 2 ^ 16 % 2 ^ 6; hop = number % 2 ^ 16 }
