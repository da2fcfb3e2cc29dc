-- The line of a hop: what every line says of the hop's two words. Assumes nothing.
use mathlib.Core.Path.{◌≡◌, refl, sym, ap, ◌∙◌, subst}
use mathlib.Core.Logic.{◌⊎◌, inl, inr}
use mathlib.Core.Bool.{◌&&◌}
use mathlib.Core.List.{List}
use Prim.Native.Nat.{ℕ, ◌<◌, ◌≤◌}
use native.Mathlib.Omega.{arith}
use lib.Dec.{leb, eqb}
use lib.ListN.{length, get_or}
use Rattle.prefix.specs.Routes.{last_hop}
use Rattle.octets.specs.Words.{word_count, most}
use Rattle.ground.proofs.Cases.{by_eq}
use Rattle.ground.proofs.Tests.{Decides, leb?, eqb?, and?, cond_on, cond_off, by_test}
use Rattle.costs.specs.Lines.{words_code, line_code, line_by, line_or, line_of, LineSays}
use Rattle.costs.specs.declared.line.Line.{Line}
use Rattle.costs.specs.declared.line.Line.TheVariants.{Refused}
use Rattle.costs.proofs.Rates.{rate_says}

-- ---- the refusals

abbrev pub IsRefusal : ℕ → Type 0
IsRefusal k = (k ≡ 1) ⊎ ((k ≡ 2) ⊎ ((k ≡ 30) ⊎ (k ≡ 31)))

-- no refusal, and both words are at most 2 ^ 53; or one of the four refusals
abbrev pub Judged : ℕ → ℕ → ℕ → Type 0
Judged o c k = ((k ≡ 0) × ((o ≤ most) × (c ≤ most))) ⊎ IsRefusal k

words-code : (o c : ℕ) → Judged o c (words_code o c)
words-code o c =
    by_test (leb? o most)
    (λ l. by_test (leb? c most)
    (λ m. inl (cond_on _ _ (leb? o most) l ∙ cond_on _ _ (leb? c most) m, (l, m)))
    (λ n. inr (inr (inr (inr (cond_on _ _ (leb? o most) l ∙ cond_off _ _ (leb? c most) n))))))
    (λ n. inr (inr (inr (inl (cond_off _ _ (leb? o most) n)))))

above_0 : (k : ℕ) → IsRefusal k → 0 < k
above_0 k (inl e) = omega arith
above_0 k (inr (inl e)) = omega arith
above_0 k (inr (inr (inl e))) = omega arith
above_0 k (inr (inr (inr e))) = omega arith

-- ---- the line of a hop, and what it says

module _ (os cs : List ℕ) (hop : ℕ) where
  sizes? : Decides ((length os ≡ word_count) × (length cs ≡ word_count)) (eqb (length os) word_count && eqb (length cs) word_count)
  sizes? = and? (eqb? (length os) word_count) (eqb? (length cs) word_count)

  hop? : Decides ((1 ≤ hop) × (hop ≤ last_hop)) (leb 1 hop && leb hop last_hop)
  hop? = and? (leb? 1 hop) (leb? hop last_hop)

  abbrev words : ℕ
  words = words_code (get_or os hop 0) (get_or cs hop 0)

  abbrev line : ℕ → Line
  line k = line_or k (line_by (get_or os hop 0) (get_or cs hop 0))

  code_1 : ((length os ≡ word_count) × (length cs ≡ word_count) → ⊥) → line_code os cs hop ≡ 1
  unfolding line_code
  code_1 n = cond_off _ _ sizes? n

  code_2 : (length os ≡ word_count) × (length cs ≡ word_count) → ((1 ≤ hop) × (hop ≤ last_hop) → ⊥) → line_code os cs hop ≡ 2
  unfolding line_code
  code_2 l n = cond_on _ _ sizes? l ∙ cond_off _ _ hop? n

  code-words : (length os ≡ word_count) × (length cs ≡ word_count) → (1 ≤ hop) × (hop ≤ last_hop) → line_code os cs hop ≡ words
  unfolding line_code
  code-words l h = cond_on _ _ sizes? l ∙ cond_on _ _ hop? h

  -- A line is refused with 1, 2, 30 or 31, and else both words of its hop are at most 2 ^ 53.
  pub line_code_lem : Judged (get_or os hop 0) (get_or cs hop 0) (line_code os cs hop)
  line_code_lem =
      by_test sizes?
      (λ l. by_test hop?
      (λ h. subst (Judged (get_or os hop 0) (get_or cs hop 0)) (sym (code-words l h)) (words-code (get_or os hop 0) (get_or cs hop 0)))
      (λ n. inr (inr (inl (code_2 l n)))))
      (λ n. inr (inl (code_1 n)))

  line_0 : line_code os cs hop ≡ 0 → line_of os cs hop ≡ line_by (get_or os hop 0) (get_or cs hop 0)
  unfolding line_of
  line_0 e = ap line e

  line_refused : (line_code os cs hop ≡ 0 → ⊥) → line_of os cs hop ≡ Refused (line_code os cs hop)
  unfolding line_of
  line_refused n = cond_off _ _ (eqb? (line_code os cs hop) 0) n

  -- Every line says what it means: a rate is that of the hop's own words, rounded once; "no traffic" is a hop of no octets; and a refusal
  -- is the number that `line_code` gives.
  pub line_says : LineSays os cs hop (line_of os cs hop)
  line_says = go line_code_lem
    where
      go : Judged (get_or os hop 0) (get_or cs hop 0) (line_code os cs hop) → LineSays os cs hop (line_of os cs hop)
      go (inl k) =
          by_eq (get_or os hop 0) 0
          (λ z. subst (LineSays os cs hop) (sym (line_0 k.0 ∙ cond_on _ _ (eqb? (get_or os hop 0) 0) z)) (k.0, z))
          (λ n. subst (LineSays os cs hop) (sym (line_0 k.0 ∙ cond_off _ _ (eqb? (get_or os hop 0) 0) n))
          (k.0, (omega arith, rate_says (get_or os hop 0) (get_or cs hop 0) (omega arith) k.1.0 k.1.1)))
      go (inr r) =
          subst (LineSays os cs hop) (sym (line_refused (λ e. omega (arith, above_0 (line_code os cs hop) r)))) (refl, above_0 (line_code os cs hop) r)
