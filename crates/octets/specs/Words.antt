-- The words of octets and of cents: how many there are, and how far one may go. Assumes nothing.
use Rattle.std.specs.Prelude.{ℕ, ◌+◌, ◌^◌}
use Rattle.prefix.specs.Routes.{last_hop}

-- one for each hop, and word 0
abbrev pub word_count : ℕ
word_count = last_hop + 1

-- up to here an f64 holds every whole number
abbrev pub most : ℕ
most = 2 ^ 53
