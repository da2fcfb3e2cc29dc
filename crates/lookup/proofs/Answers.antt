-- What a cell of the first table says where it is no pointer; and what an answer of look up can be, so that the one number that holds its
-- code, its length and its hop tells them. Assumes nothing.
use mathlib.Core.Path.{◌≡◌, refl, ap, ap₂, ◌∙◌}
use mathlib.Core.Bool.{Bool, true, false, cond}
use mathlib.Core.List.{List, map}
use Rattle.std.proofs.lemmas.List.{map-id}
use Prim.Native.Nat.{ℕ, ◌/◌, ◌%◌, ◌^◌, ◌≤◌, ◌<◌}
use native.Mathlib.Omega.{arith}
use lib.Dec.{ltb, eqb, lit≤, lit<}
use lib.ListN.{length}
use Rattle.std.specs.Prelude.{Result, Ok, Err}
use Rattle.ground.specs.declared.refusal.Refusal.{Refusal}
use Rattle.ground.proofs.Refusals.{number_tells, number_some}
use Rattle.ground.proofs.Tests.{Decides, holds, fails, leb?, cond_off}
use Rattle.prefix.specs.Routes.{last_hop}
use Rattle.prefix.specs.declared.Prefix.{Prefix}
use Rattle.prefix.specs.Prefixes.{contains}
use Rattle.prefix.specs.Geometry.{width, block_size}
use Rattle.cells.specs.Cells.{empty, hop_of, length_of, pointer_bit, is_pointer, segment_of}
use Rattle.cells.specs.Memory.{lent_to_read}
use Rattle.cells.proofs.Direct.{Direct, is_direct?}
use Rattle.lookup.specs.declared.look.Won.{Won}
use Rattle.lookup.specs.Lookup.{Answer, refused, found, answer_of, verdict_of, says_of, look_up, packed, unpacked_of}
use Rattle.lookup.specs.inner.Outcomes.{outcome_by, outcome_of}

-- ---- what a cell of the first table says

pub decides : (long : List ℕ) (low cell : ℕ) → (pointer_bit ≤ cell → ⊥) → says_of long low cell ≡ verdict_of width cell
unfolding says_of
decides long low cell n = cond_off _ _ (leb? pointer_bit cell) n

-- ---- what an answer can be

-- its parts are small; a refusal has length 0 and no hop, and what is no refusal has a hop
pub record Told (r : Answer) : Type 0 where
  pub code : r.code ≤ 8
  pub length : r.length ≤ 32
  pub hop : r.hop ≤ last_hop
  pub refusal : (r.code ≡ 0 → ⊥) → (r.length ≡ 0) × (r.hop ≡ 0)
  pub route : r.code ≡ 0 → 0 < r.hop
  -- and its number holds it
  pub outcome : answer_of (outcome_of (packed r)) ≡ r

told_refused : (code : ℕ) → 0 < code → code ≤ 8 → answer_of (outcome_of (packed (refused code))) ≡ refused code → Told (refused code)
told_refused code l h o = record { code = h; length = lit≤ tt; hop = lit≤ tt; refusal = λ n. (refl, refl); route = λ e. absurd (omega arith); outcome = o }

told_damage : Told (refused 4)
unfolding outcome_of outcome_by
told_damage = told_refused 4 (lit< tt) (lit≤ tt) refl

-- the number of a prefix that won
found_lem : (length hop : ℕ) → length ≤ 32 → hop ≤ last_hop → answer_of (outcome_of (packed (found length hop))) ≡ found length hop
unfolding outcome_of outcome_by
found_lem length hop l h =
    let code : packed (found length hop) / 2 ^ 22 ≡ 0 = omega arith in
    let long : packed (found length hop) / 2 ^ 16 % 2 ^ 6 ≡ length = omega arith in
    let low : packed (found length hop) % 2 ^ 16 ≡ hop = omega arith in
    λ i. answer_of (outcome_by (code i) (record { length = long i; hop = low i }))

told_cond : (t : Bool) {x y : Answer} → Told x → Told y → Told (cond t x y)
told_cond true p q = p
told_cond false p q = q

told_verdict : (longest cell : ℕ) → longest ≤ 32 → Told (verdict_of longest cell)
unfolding verdict_of outcome_of outcome_by
told_verdict longest cell h = told_cond (eqb cell empty) (told_refused 8 (lit< tt) (lit≤ tt) refl) (go (is_direct? longest cell))
  where
    go : {t : Bool} → Decides (Direct longest cell) t → Told (cond t (found (length_of cell) (hop_of cell)) (refused 4))
    go (holds d) = record {
      code = lit≤ tt;
      length = omega (arith, d.length_fits);
      hop = d.hop_fits;
      refusal = λ n. absurd (n refl);
      route = λ e. d.some_hop;
      outcome = found_lem _ _ (omega (arith, d.length_fits)) d.hop_fits;
    }
    go (fails n) = told_damage

pub told_says : (long : List ℕ) (low cell : ℕ) → Told (says_of long low cell)
unfolding says_of
told_says long low cell =
    told_cond (is_pointer cell)
    (told_cond (ltb (segment_of cell) (length long / block_size)) (told_verdict 32 _ (lit≤ tt)) told_damage)
    (told_verdict width cell (lit≤ tt))

pub told_look : (first long : List ℕ) (t : Prefix) (a : ℕ) → Told (look_up first long t a)
unfolding look_up outcome_of outcome_by
told_look first long t a =
    told_cond (lent_to_read (length first) (length long) t)
    (told_cond (contains t a) (told_says long (a % block_size) _) (told_refused 3 (lit< tt) (lit≤ tt) refl))
    (told_refused 1 (lit< tt) (lit≤ tt) refl)

-- ---- an answer as one number

-- the number tells the answer, and is no pointer
pub unpacked : {r : Answer} {n : ℕ} → Told r → n ≡ packed r → unpacked_of n ≡ r
unpacked {r} {n} T e =
    let code : n / 2 ^ 22 ≡ r.code = omega (arith, T.length, T.hop) in
    let long : n / 2 ^ 16 % 2 ^ 6 ≡ r.length = omega (arith, T.length, T.hop) in
    let low : n % 2 ^ 16 ≡ r.hop = omega (arith, T.length, T.hop) in
    λ i. record { code = code i; length = long i; hop = low i }

pub no_pointer : {r : Answer} → Told r → packed r < pointer_bit
no_pointer T = omega (arith, T.code, T.length, T.hop)

-- so its number tells an answer of look up, on words too
pub told_outcome : (first long : List ℕ) (t : Prefix) (a : ℕ)
    → answer_of (outcome_of (packed (look_up (map (λ n. n) first) (map (λ n. n) long) t a))) ≡ look_up first long t a
told_outcome first long t a =
    (told_look _ _ t a).outcome ∙ ap₂ (λ (f l : List ℕ). look_up f l t a) (map-id first) (map-id long)

-- an answer tells the outcome that it stands for
pub answer_tells : (x y : Result Won Refusal) → answer_of x ≡ answer_of y → x ≡ y
answer_tells (Ok v) (Ok w) same = λ i. Ok (record { length = (same i).length; hop = (same i).hop })
answer_tells (Ok v) (Err s) same = let some = number_some s in let code = ap (λ (r : Answer). r.code) same in cc
answer_tells (Err r) (Ok w) same = let some = number_some r in let code = ap (λ (r : Answer). r.code) same in cc
answer_tells (Err r) (Err s) same = ap (λ e. Err e) (number_tells r s (ap (λ (r : Answer). r.code) same))
