-- The order of (address, length) on prefixes: what its two tests decide, that it is a strict order in which any two prefixes are placed,
-- and one number that has this order. Assumes nothing.
use Rattle.std.proofs.Common.{◌≡◌, ℕ, ◌+◌, ◌*◌, ◌<◌, ◌≤◌, ◌⊎◌, ◌↔◌, ap, inl, inr, arith}
use Rattle.ground.proofs.Tests.{Decides, ltb?, eqb?, and?, or?, iff?}
use Rattle.ground.proofs.Cases.{by_cmp}
use Rattle.prefix.specs.declared.Prefix.{Prefix}
use Rattle.prefix.specs.Prefixes.{before, same_prefix, Before, lower, shorter}

-- prefixes with one address and one length are equal
by_fields : {p q : Prefix} → p.address ≡ q.address → p.length ≡ q.length → p ≡ q
by_fields e f = λ i. record { address = e i; length = f i }

-- ---- what each test decides

pub same_prefix? : (p q : Prefix) → Decides (p ≡ q) (same_prefix p q)
unfolding same_prefix
same_prefix? p q =
    iff? (and? (eqb? p.address q.address) (eqb? p.length q.length)) (λ h. by_fields h.0 h.1)
    (λ e. (ap (λ (x : Prefix). x.address) e, ap (λ (x : Prefix). x.length) e))

pub before? : (p q : Prefix) → Decides (Before p q) (before p q)
unfolding before
before? p q =
    iff? (or? (ltb? p.address q.address) (and? (eqb? p.address q.address) (ltb? p.length q.length))) to from
  where
    to : (p.address < q.address) ⊎ ((p.address ≡ q.address) × (p.length < q.length)) → Before p q
    to (inl h) = lower h
    to (inr h) = shorter h.0 h.1

    from : Before p q → (p.address < q.address) ⊎ ((p.address ≡ q.address) × (p.length < q.length))
    from (lower h) = inl h
    from (shorter e h) = inr (e, h)

-- ---- a strict order, in which any two prefixes are placed

-- What comes before comes before all that comes after.
pub before-trans : {p q r : Prefix} → Before p q → Before q r → Before p r
before-trans (lower h) (lower k) = lower (omega arith)
before-trans (lower h) (shorter e k) = lower (omega arith)
before-trans (shorter d h) (lower k) = lower (omega arith)
before-trans (shorter d h) (shorter e k) = shorter (omega arith) (omega arith)

-- No prefix comes before itself.
pub before-other : {p q : Prefix} → Before p q → ¬ (p ≡ q)
before-other (lower h) e = let a = ap (λ (x : Prefix). x.address) e in omega arith
before-other (shorter d h) e = let l = ap (λ (x : Prefix). x.length) e in omega arith

-- Of two prefixes one comes before the other, or they are one.
pub by_order : {C : Type 0} (p q : Prefix) → (Before p q → C) → (p ≡ q → C) → (Before q p → C) → C
by_order p q less same more =
    by_cmp p.address q.address (λ h. less (lower h))
    (λ e. by_cmp p.length q.length (λ h. less (shorter e h)) (λ f. same (by_fields e f)) (λ h. more (shorter (omega arith) h)))
    (λ h. more (lower h))

-- ---- the same order as that of one number: an address has 33 lengths

abbrev pub key : Prefix → ℕ
key p = p.address * 33 + p.length

module _ (p q : Prefix) (h : p.length ≤ 32) (k : q.length ≤ 32) where
  -- The order of keys is that of (address, length).
  pub key_order : (key p < key q) ↔ Before p q
  key_order = (λ l. by_cmp p.address q.address lower (λ e. shorter e (omega arith)) (λ m. absurd (omega arith)), from)
    where
      from : Before p q → key p < key q
      from (lower l) = omega arith
      from (shorter e l) = omega arith

  -- Prefixes of one key are one prefix.
  pub same_key : key p ≡ key q → p ≡ q
  same_key e = let l : p.length ≡ q.length = omega arith in by_fields (omega arith) l
