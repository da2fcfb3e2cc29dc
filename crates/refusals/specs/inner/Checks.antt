-- What an update is told with its number, so that nothing is computed again. Assumes nothing.
use Rattle.std.specs.Prelude.{◌≡◌, ℕ, Bool, cond, not, Option, None, Some, Result, Ok, is_ok}
use Rattle.ground.specs.declared.refusal.Refusal.{Refusal}
use Rattle.ground.specs.Refusals.{code_of}
use Rattle.prefix.specs.declared.Prefix.{Prefix}
use Rattle.prefix.specs.Geometry.{touched}
use Rattle.prefix.specs.Routes.{Change, named, is_change}
use Rattle.rules.specs.inner.Places.{Listed, PlaceIs, index_of}
use Rattle.cells.specs.Memory.{Tables, Lent, lowest_free, needs_segment}
use Rattle.refusals.specs.declared.codes.Checked.{Checked}
use Rattle.damage.specs.Damage.{undamaged}
use Rattle.refusals.specs.Codes.{Call, change, tested, unless_live, code}

-- what the tests find of an update of the prefix p that none of them refuses: how many rules are live, the place of p among them, the
-- blocks that it touches, and the segment that is opened for it
pub record Learnt (t p : Prefix) (opening : Tables → Option ℕ) (m : Lent) (x : Checked) : Type 0 where
  pub listed : Listed m.rules x.used
  pub place : PlaceIs m.rules x.used p (index_of x.place) (is_ok x.place)
  pub blocks : x.blocks ≡ touched t p
  pub segment : x.segment ≡ opening m.tables

-- the number is `answer`, and with 0 comes what the tests found
pub record Told (t p : Prefix) (answer : Lent → ℕ) (opening : Tables → Option ℕ) (m : Lent) (r : Result Checked Refusal) : Type 0 where
  pub number : code_of r ≡ answer m
  pub learnt : (x : Checked) → r ≡ Ok x → Learnt t p opening m x

-- the lowest free segment, where the prefix needs one
unfoldable pub opens_for : Prefix → Prefix → Tables → Option ℕ
opens_for t p tables = cond (needs_segment t p tables) (Some (lowest_free tables.owners)) None

-- the number is that of the call, and a segment is opened where one is needed
abbrev pub CheckedIs : Prefix → Call → Lent → Result Checked Refusal → Type 0
CheckedIs t c m r = Told t (named (change c)) (code t c) (opens_for t (named (change c))) m r

-- ---- on the way there

-- refusal 4 alone
unfoldable pub unless_damaged : Prefix → Prefix → Lent → ℕ
unless_damaged t p m = cond (not (undamaged t p m)) 4 0

-- no segment is opened, or it is not known yet
abbrev pub never : Tables → Option ℕ
never tables = None

-- c is a change of the prefix p, and `lets` says whether refusal 2 lets its numbers pass
pub record Asked (c : Change) (p : Prefix) (lets : Bool) : Type 0 where
  pub names : named c ≡ p
  pub numbers : lets ≡ is_change c

-- what any such change is told by refusals 1 to 4, and by those and 5
abbrev pub TestsTell : Prefix → Prefix → Bool → Lent → Result Checked Refusal → Type 0
TestsTell t p lets m r = (c : Change) → Asked c p lets → Told t p (λ m. tested t c m 0) never m r

abbrev pub LiveTestsTell : Prefix → Prefix → Bool → Lent → Result Checked Refusal → Type 0
LiveTestsTell t p lets m r = (c : Change) → Asked c p lets → Told t p (λ m. tested t c m (unless_live p m)) (opens_for t p) m r
