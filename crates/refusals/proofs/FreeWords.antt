-- Rule words that are 0: the first stands after the live ones, so that no second pass over them is needed. Assumes nothing.
use mathlib.Core.Path.{◌≡◌, refl, ap}
use mathlib.Core.Bool.{Bool, true, false, cond}
use mathlib.Core.List.{List, [], ◌∷◌}
use Prim.Native.Nat.{ℕ, suc}
use native.Mathlib.Omega.{arith}
use lib.Dec.{eqb}
use lib.ListN.{length}
use Rattle.ground.proofs.Tests.{eqb?, iff?, same_test}
use Rattle.rules.specs.Rules.{live_words}
use Rattle.rules.specs.inner.Places.{Listed}
use Rattle.cells.specs.Memory.{no_zero, lowest_free}
use Rattle.cells.proofs.FreeSegments.{no_zero?}

-- the first word that is 0 stands after the words before it
pub lowest_live : (ws : List ℕ) → lowest_free ws ≡ length (live_words ws)
unfolding lowest_free live_words
lowest_live [] = refl
lowest_live (w ∷ ws) = go (eqb w 0) (lowest_live ws)
  where
    go : (t : Bool) → lowest_free ws ≡ length (live_words ws) → cond t 0 (suc (lowest_free ws)) ≡ length (cond t [] (w ∷ live_words ws))
    go true e = refl
    go false e = ap suc e

-- a list that was tested has no word 0 exactly if each is live
pub all_live : (ws : List ℕ) (n : ℕ) → Listed ws n → eqb n (length ws) ≡ no_zero ws
all_live ws n s =
    same_test (eqb? n (length ws)) (iff? (no_zero? ws) (λ e. omega (arith, lowest_live ws, s.count)) (λ e. omega (arith, lowest_live ws, s.count)))
