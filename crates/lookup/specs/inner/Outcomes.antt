-- What the one number of an answer holds. Assumes nothing.
use Rattle.std.specs.Prelude.{ℕ, ◌/◌, ◌%◌, ◌^◌, cond, eqb, Result, Ok, Err}
use Rattle.ground.specs.declared.refusal.Refusal.{Refusal}
use Rattle.ground.specs.declared.refusal.Refusal.TheVariants.{WrongSizes, Outside, Damage, NoRoute}
use Rattle.lookup.specs.declared.look.Won.{Won}

-- by its code, which is 0 or one of look up's refusals
unfoldable pub outcome_by : ℕ → Won → Result Won Refusal
outcome_by code won =
    cond (eqb code 0) (Ok won) (
    cond (eqb code 1) (Err WrongSizes) (
    cond (eqb code 3) (Err Outside) (
    cond (eqb code 8) (Err NoRoute) (Err Damage))))

unfoldable pub outcome_of : ℕ → Result Won Refusal
outcome_of n = outcome_by (n / 2 ^ 22) (record { length = n / 2 ^ 16 % 2 ^ 6; hop = n % 2 ^ 16 })
