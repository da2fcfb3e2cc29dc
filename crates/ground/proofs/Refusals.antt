-- A number of refusal tells which it is, is not 0, and is small. Assumes nothing.
use Rattle.std.proofs.Common.{◌≡◌, ℕ, false, cond, eqb, Result, Ok, Err, refl, sym, ap, ◌∙◌}
use Rattle.ground.specs.declared.refusal.Refusal.{Refusal}
use Rattle.ground.specs.declared.refusal.Refusal.TheVariants.{WrongSizes, WrongNumbers, Outside, Damage, NotLive, NoRuleWord, NoSegment, NoRoute}
use Rattle.ground.specs.declared.refusal.Refusal.TheVariants.{CutRecord, WrongLengthField, WrongVersion, WrongKind, WrongSerial, WithdrawWithHop, NoRecordRoom}
use Rattle.ground.specs.declared.refusal.Refusal.TheVariants.{TooManyOctets, TooManyCents}
use Rattle.ground.specs.Refusals.{number, code_of}

-- the refusal of a number
of_number : ℕ → Refusal
of_number n =
    cond (eqb n 1) WrongSizes (
    cond (eqb n 2) WrongNumbers (
    cond (eqb n 3) Outside (
    cond (eqb n 4) Damage (
    cond (eqb n 5) NotLive (
    cond (eqb n 6) NoRuleWord (
    cond (eqb n 7) NoSegment (
    cond (eqb n 8) NoRoute (
    cond (eqb n 20) CutRecord (
    cond (eqb n 21) WrongLengthField (
    cond (eqb n 22) WrongVersion (
    cond (eqb n 23) WrongKind (
    cond (eqb n 24) WrongSerial (
    cond (eqb n 25) WithdrawWithHop (
    cond (eqb n 26) NoRecordRoom (
    cond (eqb n 30) TooManyOctets (
    TooManyCents))))))))))))))))

number_back : (r : Refusal) → of_number (number r) ≡ r
unfolding of_number
number_back WrongSizes = refl
number_back WrongNumbers = refl
number_back Outside = refl
number_back Damage = refl
number_back NotLive = refl
number_back NoRuleWord = refl
number_back NoSegment = refl
number_back NoRoute = refl
number_back CutRecord = refl
number_back WrongLengthField = refl
number_back WrongVersion = refl
number_back WrongKind = refl
number_back WrongSerial = refl
number_back WithdrawWithHop = refl
number_back NoRecordRoom = refl
number_back TooManyOctets = refl
number_back TooManyCents = refl

pub number_tells : (r s : Refusal) → number r ≡ number s → r ≡ s
number_tells r s same = sym (number_back r) ∙ ap of_number same ∙ number_back s

pub number_some : (r : Refusal) → eqb (number r) 0 ≡ false
number_some WrongSizes = refl
number_some WrongNumbers = refl
number_some Outside = refl
number_some Damage = refl
number_some NotLive = refl
number_some NoRuleWord = refl
number_some NoSegment = refl
number_some NoRoute = refl
number_some CutRecord = refl
number_some WrongLengthField = refl
number_some WrongVersion = refl
number_some WrongKind = refl
number_some WrongSerial = refl
number_some WithdrawWithHop = refl
number_some NoRecordRoom = refl
number_some TooManyOctets = refl
number_some TooManyCents = refl

-- a call that answers nothing else: its number tells its outcome
pub code_tells : (x y : Result (Unit {0}) Refusal) → code_of x ≡ code_of y → x ≡ y
code_tells (Ok x) (Ok y) same = refl
code_tells (Ok x) (Err s) same = cc (number_some s)
code_tells (Err r) (Ok y) same = cc (number_some r)
code_tells (Err r) (Err s) same = ap (λ e. Err e) (number_tells r s same)
