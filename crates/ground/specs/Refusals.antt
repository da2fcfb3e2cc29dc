-- The paper's number of each refusal, and that of an outcome. Assumes nothing.
use Rattle.std.specs.Prelude.{ℕ, Result, Ok, Err}
use Rattle.ground.specs.declared.refusal.Refusal.{Refusal}
use Rattle.ground.specs.declared.refusal.Refusal.TheVariants.{WrongSizes, WrongNumbers, Outside, Damage, NotLive, NoRuleWord, NoSegment, NoRoute}
use Rattle.ground.specs.declared.refusal.Refusal.TheVariants.{CutRecord, WrongLengthField, WrongVersion, WrongKind, WrongSerial, WithdrawWithHop, NoRecordRoom}
use Rattle.ground.specs.declared.refusal.Refusal.TheVariants.{TooManyOctets, TooManyCents}

abbrev pub number : Refusal → ℕ
number WrongSizes = 1
number WrongNumbers = 2
number Outside = 3
number Damage = 4
number NotLive = 5
number NoRuleWord = 6
number NoSegment = 7
number NoRoute = 8
number CutRecord = 20
number WrongLengthField = 21
number WrongVersion = 22
number WrongKind = 23
number WrongSerial = 24
number WithdrawWithHop = 25
number NoRecordRoom = 26
number TooManyOctets = 30
number TooManyCents = 31

-- 0 for success, else the refusal's number
abbrev pub code_of : {A : Type 0} → Result A Refusal → ℕ
code_of (Ok x) = 0
code_of (Err refusal) = number refusal
