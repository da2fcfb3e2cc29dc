-- Lines and the order of five hops, as antt computes them. Assumes nothing.
use mathlib.Core.Path.{◌≡◌, refl}
use mathlib.Core.Bool.{true, false}
use mathlib.Core.List.{List, [], ◌∷◌}
use Prim.Native.Nat.{ℕ, ◌+◌, ◌-◌, ◌^◌}
use lib.IntN.{negsuc}
use lib.Ieee.{fin, div, of_int, round, lt}
use Rattle.costs.specs.Lines.{words_line}
use Rattle.costs.specs.Ranks.{before, hop_word, ahead, class_of, dearer, tie_broken}
use Rattle.costs.specs.declared.line.Line.TheVariants.{Rate, NoTraffic, Refused}

-- 1 cent for 3 octets, and 2 cents for 6, are one rate: 6,004,799,503,160,661 / 2 ^ 54
third : (words_line 3 1 ≡ Rate (fin false 6004799503160661 (negsuc 53))) × (words_line 6 2 ≡ Rate (fin false 6004799503160661 (negsuc 53)))
unfolding words_line div of_int round
third = (refl, refl)

-- 7 cents for no octets are no traffic; a word of 2 ^ 53 is taken, and one above it is not, octets before cents
ends : (words_line 0 7 ≡ NoTraffic) × ((words_line 0 (2 ^ 53) ≡ NoTraffic) × ((words_line 0 (2 ^ 53 + 1) ≡ Refused 31) × (words_line (2 ^ 53 + 1) (2 ^ 53 + 1) ≡ Refused 30)))
unfolding words_line
ends = (refl, (refl, (refl, refl)))

-- hops 0 to 5; hop 0 is no line
octets : List ℕ
octets = 0 ∷ 0 ∷ 6 ∷ 1000 ∷ 3 ∷ 0 ∷ []

cents : List ℕ
cents = 0 ∷ 0 ∷ 2 ∷ 5 ∷ 1 ∷ 7 ∷ []

-- hop 5 has cents alone; 2 / 6 and 1 / 3 are one rate, and go by number; 5 / 1000 is less; hop 1 has nothing
order : (before octets cents 5 2 ≡ true) × ((before octets cents 2 4 ≡ true) × ((before octets cents 4 3 ≡ true) × (before octets cents 3 1 ≡ true)))
unfolding octets cents before hop_word ahead class_of dearer tie_broken div of_int round lt
order = (refl, (refl, (refl, refl)))

-- (2 ^ 53 - 2) / (2 ^ 53 - 1) is less than (2 ^ 53 - 1) / 2 ^ 53, but the two are one f64: so the lower number goes first
near : (before (0 ∷ (2 ^ 53 - 1) ∷ (2 ^ 53) ∷ []) (0 ∷ (2 ^ 53 - 2) ∷ (2 ^ 53 - 1) ∷ []) 1 2 ≡ true)
    × (before (0 ∷ (2 ^ 53) ∷ (2 ^ 53 - 1) ∷ []) (0 ∷ (2 ^ 53 - 1) ∷ (2 ^ 53 - 2) ∷ []) 1 2 ≡ true)
unfolding before hop_word ahead class_of dearer tie_broken div of_int round lt
near = (refl, refl)
