-- The number of each class of lines: that of `class_of` (specs/Ranks.antt). Assumes nothing.
use Rattle.std.specs.Prelude.{ℕ}
use Rattle.costs.specs.declared.order.Class.{Class}
use Rattle.costs.specs.declared.order.Class.TheVariants.{CentsAlone, Traffic, Nothing}

abbrev pub number : Class → ℕ
number CentsAlone = 0
number Traffic = 1
number Nothing = 2
