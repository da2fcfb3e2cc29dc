-- What a change leaves is one equation, from its parts. Assumes nothing.
use mathlib.Core.Path.{◌≡◌, ap, ap₂, ◌∙◌}
use Prim.Native.Nat.{ℕ}
use Rattle.cells.specs.Memory.{Tables}
use Rattle.tables.specs.Changes.{changed, left, leaves}

pub tables_are : {S T : Tables} → S.first ≡ T.first → S.long ≡ T.long → S.owners ≡ T.owners → S ≡ T
tables_are f l o = λ i. record { first = f i; long = l i; owners = o i }

module _ (f : Tables → Tables) (before : Tables) {after : Tables} {r : ℕ} where
  pub left_is : after ≡ f before → r ≡ changed before after → left r after ≡ leaves f before
  left_is e c = ap₂ left (c ∙ ap (changed before) e) e
