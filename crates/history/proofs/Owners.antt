-- Segments and the blocks that own them: a sum over the segments is a sum over the blocks that own one. Assumes nothing.
use mathlib.Core.Path.{◌≡◌, refl, sym, ap, ◌∙◌}
use mathlib.Core.Logic.{◌≢◌}
use mathlib.Core.Bool.{Bool, true, false, cond, ◌||◌, or-true, false≢true}
use Prim.Native.Nat.{ℕ, zero, suc, ◌+◌, ◌≤◌, ◌<◌}
use native.Mathlib.Nat.{le_refl, le_step, suc_inj, suc-ne-zero, add-zero, zero-add}
use native.Mathlib.Omega.{arith}
use lib.Dec.{eqb, eqb-zero-suc}
use borrow.Author.Tests.{eq-eqb, ne_eqb, eqb-true}
use Rattle.ground.specs.Sums.{sum}
use Rattle.ground.proofs.Cases.{by_eq}
use Rattle.ground.proofs.Sums.{sum_cong, sum_none, sum_one, sum-swap}

-- `owner k` is 0 where segment k has no owner, and else its block and 1.

-- some segment k < n has the owner b + 1
unfoldable pub owned : ℕ → (ℕ → ℕ) → ℕ → Bool
owned zero owner b = false
owned (suc n) owner b = owned n owner b || eqb (owner n) (suc b)

-- f at the block of an owner, 0 at none
abbrev pub of_owner : (ℕ → ℕ) → ℕ → ℕ
of_owner f zero = 0
of_owner f (suc b) = f b

pub owned_by : (n : ℕ) (owner : ℕ → ℕ) (b : ℕ) → owned n owner b ≡ true → (k : ℕ) × (k < n) × (owner k ≡ suc b)
unfolding owned
owned_by zero owner b e = absurd (false≢true e)
owned_by (suc n) owner b e = go (owned n owner b) (eqb (owner n) (suc b)) refl refl e (owned_by n owner b)
  where
    go : (x y : Bool) → owned n owner b ≡ x → eqb (owner n) (suc b) ≡ y → x || y ≡ true
        → (owned n owner b ≡ true → (k : ℕ) × (k < n) × (owner k ≡ suc b)) → (k : ℕ) × (k < suc n) × (owner k ≡ suc b)
    go true y p q t ih = ((ih p).0, le_step (ih p).1, (ih p).2)
    go false true p q t ih = (n, le_refl (suc n), eqb-true (owner n) (suc b) q)
    go false false p q t ih = absurd (false≢true t)

-- the terms of one block: at most one segment has it
one_block : (n : ℕ) (owner : ℕ → ℕ) (b x : ℕ) → ((j k : ℕ) → j < n → k < n → owner j ≡ suc b → owner k ≡ suc b → j ≡ k)
    → sum n (λ k. cond (eqb (owner k) (suc b)) x 0) ≡ cond (owned n owner b) x 0
unfolding sum owned
one_block zero owner b x inj = refl
one_block (suc n) owner b x inj =
    ap (λ (z : ℕ). z + cond (eqb (owner n) (suc b)) x 0) (one_block n owner b x (λ j k h l. inj j k (le_step h) (le_step l)))
    ∙ go (owned n owner b) (eqb (owner n) (suc b)) refl refl
  where
    go : (y z : Bool) → owned n owner b ≡ y → eqb (owner n) (suc b) ≡ z → cond y x 0 + cond z x 0 ≡ cond (y || z) x 0
    go true true p q =
        let t = owned_by n owner b p in
        let same = inj t.0 n (le_step t.1) (le_refl (suc n)) t.2 (eqb-true (owner n) (suc b) q) in
        omega arith
    go true false p q = add-zero x
    go false true p q = zero-add x
    go false false p q = refl

-- the term of one segment, as a sum over the blocks
one_segment : (N : ℕ) (f : ℕ → ℕ) (o : ℕ) → o ≤ N → of_owner f o ≡ sum N (λ b. cond (eqb o (suc b)) (f b) 0)
one_segment N f zero h = sym (sum_none N _ (λ b l. simp eqb-zero-suc))
one_segment N f (suc j) h =
    sym (sum_one N (λ b. cond (eqb (suc j) (suc b)) (f b) 0) j h (λ b l d. simp (ne_eqb (suc j) (suc b) (λ p. d (sym (suc_inj p)))))
    ∙ simp (eq-eqb (suc j) (suc j) refl))

-- Each block below N owns at most one segment below n: the sum over the segments is the sum over the blocks that own one.
pub sum_owned : (n N : ℕ) (owner f : ℕ → ℕ) → ((k : ℕ) → k < n → owner k ≤ N)
    → ((j k : ℕ) → j < n → k < n → owner j ≢ 0 → owner j ≡ owner k → j ≡ k)
    → sum n (λ k. of_owner f (owner k)) ≡ sum N (λ b. cond (owned n owner b) (f b) 0)
sum_owned n N owner f low inj =
    sum_cong n _ _ (λ k h. one_segment N f (owner k) (low k h))
    ∙ sum-swap n N (λ k b. cond (eqb (owner k) (suc b)) (f b) 0)
    ∙ sum_cong N _ _ (λ b l. one_block n owner b (f b) (λ j k h i p q. inj j k h i (λ z. suc-ne-zero b (sym p ∙ z)) (p ∙ sym q)))

-- a segment that has the owner shows it
pub owned_yes : (n : ℕ) (owner : ℕ → ℕ) (b k : ℕ) → k < n → owner k ≡ suc b → owned n owner b ≡ true
unfolding owned
owned_yes zero owner b k h e = absurd (omega arith)
owned_yes (suc n) owner b k h e =
    by_eq k n
    (λ q. ap (λ (x : Bool). owned n owner b || x) (eq-eqb (owner n) (suc b) (ap owner (sym q) ∙ e)) ∙ or-true (owned n owner b))
    (λ d. ap (λ (x : Bool). x || eqb (owner n) (suc b)) (owned_yes n owner b k (omega arith) e))
