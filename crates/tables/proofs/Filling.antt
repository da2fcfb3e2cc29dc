-- A segment filled with one value, or with one in a run and another around it. Assumes nothing.
use mathlib.Core.Path.{◌≡◌, sym, ap, ◌∙◌}
use mathlib.Core.List.{List}
use Prim.Native.Nat.{ℕ, ◌+◌, ◌*◌, ◌/◌, ◌≤◌, ◌<◌}
use native.Mathlib.Omega.{arith}
use lib.ListN.{length, get_or}
use Rattle.ground.specs.Lists.{change_where}
use Rattle.ground.proofs.Tests.{eqb?, by_test, cond_on, cond_off}
use Rattle.ground.proofs.Lists.{is_where, where_same, length_where, get_or_on, get_or_off}
use Rattle.prefix.specs.Geometry.{block_size}
use Rattle.tables.specs.Changes.{segment_filled}
use Rattle.tables.specs.inner.Ranges.{in_range, InSegment, RunChanged, two_values}
use Rattle.tables.proofs.Ranges.{in_range?, run_length, run_cong, run_then}
use Rattle.tables.proofs.Segments.{segment_of_lem}

pub inside_run : (from to inside around i : ℕ) → from ≤ i → i < to → two_values from to inside around i ≡ inside
unfolding two_values
inside_run from to inside around i low high = cond_on _ _ (in_range? from to i) (low, high)

pub around_run : (from to inside around i : ℕ) → ((from ≤ i) × (i < to) → ⊥) → two_values from to inside around i ≡ around
unfolding two_values
around_run from to inside around i n = cond_off _ _ (in_range? from to i) n

-- three runs, one after another, fill the segment
pub filled_in_three : {at from to inside around : ℕ} {w x y z : List ℕ} {r s u : ℕ} → InSegment at from to w
    → RunChanged (λ i v. around) at from w x r → RunChanged (λ i v. inside) from to x y s → RunChanged (λ i v. around) to (at + block_size) y z u
    → RunChanged (λ i v. two_values from to inside around i) at (at + block_size) w z (r + s + u)
filled_in_three {at} {from} {to} {inside} {around} h p q o =
    run_then
    (run_then
    (run_cong p (λ i v. two_values from to inside around i) (λ i v l m. sym (around_run from to inside around i (λ k. omega arith))))
    h.low
    h.ordered
    (run_cong q (λ i v. two_values from to inside around i) (λ i v l m. sym (inside_run from to inside around i l m))))
    (omega arith)
    h.high
    (run_cong o (λ i v. two_values from to inside around i) (λ i v l m. sym (around_run from to inside around i (λ k. omega arith))))

-- one run of a segment with one value is the segment filled
pub filled_whole : (s : ℕ) {from to value : ℕ} {xs ys : List ℕ} {r : ℕ} → from ≡ s * block_size → to ≡ from + block_size → RunChanged (λ i x. value) from to xs ys r
    → ys ≡ segment_filled s value xs
unfolding segment_filled
filled_whole s {from} {to} {xs = xs} low high p =
    p.is ∙ where_same (in_range? from to) (λ i. eqb? (i / block_size) s) _ xs (λ i r. omega arith) (λ i q. omega arith)

pub length_filled : (s value : ℕ) (xs : List ℕ) → length (segment_filled s value xs) ≡ length xs
unfolding segment_filled
length_filled s value xs = length_where _ _ xs

pub get_or_filled : (s value : ℕ) (xs : List ℕ) (i : ℕ) → i < length xs → i / block_size ≡ s → get_or (segment_filled s value xs) i 0 ≡ value
unfolding segment_filled
get_or_filled s value xs i h q = get_or_on _ _ xs i (eqb? (i / block_size) s) h q

pub get_or-other : (s value : ℕ) (xs : List ℕ) (i : ℕ) → (i / block_size ≡ s → ⊥) → get_or (segment_filled s value xs) i 0 ≡ get_or xs i 0
unfolding segment_filled
get_or-other s value xs i n = get_or_off _ _ xs i (eqb? (i / block_size) s) n

-- the same of the cell at the place i of segment n
module _ (s value : ℕ) (xs : List ℕ) where
  pub filled_in : (i : ℕ) → i < block_size → s * block_size + i < length xs → get_or (segment_filled s value xs) (s * block_size + i) 0 ≡ value
  filled_in i h l = get_or_filled s value xs (s * block_size + i) l (segment_of_lem s i h)

  pub filled_out : (n i : ℕ) → i < block_size → ¬ (n ≡ s) → get_or (segment_filled s value xs) (n * block_size + i) 0 ≡ get_or xs (n * block_size + i) 0
  filled_out n i h d = get_or-other s value xs (n * block_size + i) (λ e. d (sym (segment_of_lem n i h) ∙ e))

-- a segment filled with two values is one filled with the value around, with g of that in the run
pub filled_then : (s : ℕ) {at from to inside around r : ℕ} {xs ys : List ℕ} (g : ℕ → ℕ → ℕ) → at ≡ s * block_size → at ≤ from → to ≤ at + block_size
    → ((i : ℕ) → inside ≡ g i around) → RunChanged (λ i x. two_values from to inside around i) at (at + block_size) xs ys r
    → ys ≡ change_where (in_range from to) g (segment_filled s around xs)
filled_then s {at} {from} {to} {inside} {around} {xs = xs} {ys} g e low high same p =
    is_where (in_range? from to) g (segment_filled s around xs) ys (run_length p ∙ sym (length_filled s around xs))
    (λ i h m.
    let l : i < length xs = omega (arith, length_filled s around xs) in
    at_i i ∙ get_or_on _ _ xs i (in_range? at (at + block_size) i) l (omega arith) ∙ inside_run from to inside around i m.0 m.1 ∙ same i
    ∙ ap (g i) (sym (get_or_filled s around xs i l (omega arith))))
    (λ i h n.
    let l : i < length xs = omega (arith, length_filled s around xs) in
    by_test (in_range? at (at + block_size) i)
    (λ m. at_i i ∙ get_or_on _ _ xs i (in_range? at (at + block_size) i) l m ∙ around_run from to inside around i n ∙ sym (get_or_filled s around xs i l (omega arith)))
    (λ m. at_i i ∙ get_or_off _ _ xs i (in_range? at (at + block_size) i) m ∙ sym (get_or-other s around xs i (λ q. m (omega arith)))))
  where
    at_i : (i : ℕ) → get_or ys i 0 ≡ get_or (change_where (in_range at (at + block_size)) (λ j x. two_values from to inside around j) xs) i 0
    at_i i = ap (λ (l : List ℕ). get_or l i 0) p.is
