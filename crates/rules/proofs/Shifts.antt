-- A word put in and a word taken out, by a copy of those after it: they stand one place further, or one place nearer. Assumes nothing.
use mathlib.Core.Path.{◌≡◌, sym, ap, ap₂, ◌∙◌}
use mathlib.Core.List.{List, ◌∷◌, ◌++◌, append_assoc}
use Prim.Native.Nat.{ℕ, suc, ◌+◌, ◌-◌, ◌≤◌, ◌<◌}
use native.Mathlib.Omega.{arith}
use lib.ListN.{length, set, take, drop, length-append, length-drop}
use lib.Seq.{slice, paste, length-paste, length-take-le, take-take, drop-append_seam, drop-append-add, take-append_seam, set_split, drop-drop}
use Rattle.std.proofs.lemmas.List.{take-append-le, drop-take}
use Rattle.rules.specs.inner.Places.{inserted_at, removed_at}

-- the words from an index on, some of them
part_is : (ws : List ℕ) (from n : ℕ) → from ≤ n → take (n - from) (drop from ws) ≡ slice from n ws
part_is ws from n h =
    let k : from + (n - from) ≡ n = omega arith in
    sym (drop-take from (n - from) ws) ∙ ap (λ (m : ℕ). drop from (take m ws)) k

pub inserted : (ws : List ℕ) (n at word : ℕ) → at ≤ n → n < length ws → set (paste ws (at + 1) (drop at ws) (n - at)) at word ≡ inserted_at ws n at word
inserted ws n at word an room =
    let a = take (at + 1) ws in
    let b = take (n - at) (drop at ws) in
    let c = drop (at + 1 + (n - at)) ws in
    let first : length a ≡ suc at = length-take-le (at + 1) ws (omega arith) ∙ omega arith in
    let size : length (a ++ b ++ c) ≡ length ws = length-paste ws (at + 1) (drop at ws) (n - at) (omega arith) (omega (arith, length-drop at ws)) in
    let front : take at (a ++ b ++ c) ≡ take at ws =
    take-append-le at (a ++ b) c (omega (arith, length-append a b)) ∙ take-append-le at a b (omega arith) ∙ take-take at (at + 1) ws (omega arith) in
    let rest : drop (suc at) (a ++ b ++ c) ≡ b ++ c =
    ap₂ (λ (m : ℕ) (xs : List ℕ). drop m xs) (sym first) (append_assoc a b c) ∙ drop-append_seam a (b ++ c) in
    let end : at + 1 + (n - at) ≡ suc n = omega arith in
    let last : c ≡ drop (suc n) ws = ap (λ (m : ℕ). drop m ws) end in
    set_split (a ++ b ++ c) at word (omega arith)
    ∙ ap₂ (λ (xs ys : List ℕ). xs ++ word ∷ ys) front (rest ∙ ap₂ (λ (xs ys : List ℕ). xs ++ ys) (part_is ws at n an) last)

pub removed : (ws : List ℕ) (n at : ℕ) → at < n → n ≤ length ws
    → set (paste ws at (drop (at + 1) ws) (n - (at + 1))) (n - 1) 0 ≡ removed_at ws n at
removed ws n at an within =
    let a = take at ws in
    let b = take (n - (at + 1)) (drop (at + 1) ws) in
    let c = drop (at + (n - (at + 1))) ws in
    let first : length (a ++ b) ≡ n - 1 =
    length-append a b ∙ ap₂ (λ (i j : ℕ). i + j) (length-take-le at ws (omega arith)) (length-take-le (n - (at + 1)) (drop (at + 1) ws) (omega (arith, length-drop (at + 1) ws))) ∙ omega arith in
    let size : length (a ++ b ++ c) ≡ length ws = length-paste ws at (drop (at + 1) ws) (n - (at + 1)) (omega arith) (omega (arith, length-drop (at + 1) ws)) in
    let front : take (n - 1) (a ++ b ++ c) ≡ a ++ b = ap (λ (m : ℕ). take m (a ++ b ++ c)) (sym first) ∙ take-append_seam (a ++ b) c in
    let past : suc (n - 1) ≡ length (a ++ b) + 1 = omega arith in
    let end : at + (n - (at + 1)) + 1 ≡ n = omega arith in
    let rest : drop (suc (n - 1)) (a ++ b ++ c) ≡ drop n ws =
    ap (λ (m : ℕ). drop m (a ++ b ++ c)) past ∙ drop-append-add (a ++ b) c 1 ∙ drop-drop 1 (at + (n - (at + 1))) ws ∙ ap (λ (m : ℕ). drop m ws) end in
    let next : at + 1 ≡ suc at = omega arith in
    set_split (a ++ b ++ c) (n - 1) 0 (omega arith)
    ∙ ap₂ (λ (xs ys : List ℕ). xs ++ 0 ∷ ys) front rest
    ∙ ap (λ (xs : List ℕ). a ++ xs ++ 0 ∷ drop n ws) (part_is ws (at + 1) n (omega arith))
    ∙ append_assoc a (slice (at + 1) n ws) (0 ∷ drop n ws)
    ∙ ap (λ (m : ℕ). a ++ (slice m n ws ++ 0 ∷ drop n ws)) next
