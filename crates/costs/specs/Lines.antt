-- A line of the cost sheet: cents for an octet, as an f64, or "no traffic"; for any numbers and any words. Assumes nothing.
use Rattle.std.specs.Prelude.{◌≡◌, cond, false, ◌&&◌, List, ℕ, ◌<◌, T, leb, eqb, pos, length, get_or, Float}
use Rattle.std.specs.Float.{fin, binary64}
use Rattle.std.specs.Float.Ieee.{of_int, div, round, le}
use Rattle.std.specs.Float.Ieee.Exact.{HasValue}
use Rattle.std.specs.Float.Ieee.Positive.{positive}
use Rattle.std.specs.Float.Ieee.Scale.{finite}
use Rattle.octets.specs.Words.{word_count, most}
use Rattle.prefix.specs.Routes.{last_hop}
use Rattle.costs.specs.declared.line.Line.{Line}
use Rattle.costs.specs.declared.line.Line.TheVariants.{Rate, NoTraffic, Refused}
use Rattle.costs.specs.declared.line.Values.{Values}

-- both numbers converted, and divided once
abbrev pub rate_of : ℕ → ℕ → Float
rate_of octets cents = div binary64 (of_int binary64 (pos cents)) (of_int binary64 (pos octets))

-- the number of a line's refusal, or 0: of the sizes, of the hop, and then of the two words of this hop
abbrev pub words_code : ℕ → ℕ → ℕ
words_code octets cents = cond (leb octets most) (cond (leb cents most) 0 31) 30

unfoldable pub line_code : List ℕ → List ℕ → ℕ → ℕ
line_code octets cents hop =
    cond (eqb (length octets) word_count && eqb (length cents) word_count)
    (cond (leb 1 hop && leb hop last_hop) (words_code (get_or octets hop 0) (get_or cents hop 0)) 2)
    1

-- the line of two words: without octets there is no traffic, whatever it costs
abbrev pub line_by : ℕ → ℕ → Line
line_by octets cents = cond (eqb octets 0) NoTraffic (Rate (rate_of octets cents))

-- that, or the refusal
abbrev pub line_or : ℕ → Line → Line
line_or code line = cond (eqb code 0) line (Refused code)

unfoldable pub words_line : ℕ → ℕ → Line
words_line octets cents = line_or (words_code octets cents) (line_by octets cents)

-- the line of a hop
unfoldable pub line_of : List ℕ → List ℕ → ℕ → Line
line_of octets cents hop = line_or (line_code octets cents hop) (line_by (get_or octets hop 0) (get_or cents hop 0))

abbrev pub plus_zero : Float
plus_zero = fin false 0 (pos 0)

-- what each case of a line stands for: the paper's number; whether there is traffic; and the rate, which says nothing where there is none
abbrev pub values_of : Line → Values
values_of (Rate x) = record { code = 0; traffic = 1; rate = x }
values_of NoTraffic = record { code = 0; traffic = 0; rate = plus_zero }
values_of (Refused k) = record { code = k; traffic = 0; rate = plus_zero }

-- what is known of the rate x of a line with these octets and cents
pub record RateSays (octets cents : ℕ) (x : Float) : Type 0 where
  -- both conversions lose nothing: each value is the whole number itself
  pub cents_kept : HasValue (of_int binary64 (pos cents)) false cents 1
  pub octets_kept : HasValue (of_int binary64 (pos octets)) false octets 1
  -- the fraction cents / octets, rounded once, to the nearest f64
  pub once : x ≡ round binary64 false cents octets
  -- it is a number, no NaN and no infinity
  pub finite : T (finite x)
  -- at most 2 ^ 53
  pub most : T (le x (fin false 1 (pos 53)))
  -- +0 where cents is 0, and above 0 everywhere else
  pub none : cents ≡ 0 → x ≡ plus_zero
  pub some : 0 < cents → T (positive x)

-- what each case of a hop's line says of the two words of that hop
abbrev pub LineSays : List ℕ → List ℕ → ℕ → Line → Type 0
LineSays octets cents hop (Rate x) = (line_code octets cents hop ≡ 0) × ((0 < get_or octets hop 0) × RateSays (get_or octets hop 0) (get_or cents hop 0) x)
LineSays octets cents hop NoTraffic = (line_code octets cents hop ≡ 0) × (get_or octets hop 0 ≡ 0)
LineSays octets cents hop (Refused k) = (k ≡ line_code octets cents hop) × (0 < k)
