-- The climb to the longest match of an address a, over a list of routes. While no route that contains a is longer than l, each that does
-- has a key of at most that of a's own prefix of length l, so it stands at or before the last route w of such a key. If w contains a, it
-- is the longest: a longer one would be nested in it and stand after it. If not, each route that contains a also contains w's address,
-- so it is no longer than the bits that a and w's address share. Assumes nothing.
use mathlib.Core.Path.{◌≡◌, sym, ap, ◌∙◌}
use mathlib.Core.List.{List, Memᴰ as Mem}
use Prim.Native.Nat.{ℕ, ◌-◌, ◌%◌, ◌^◌, ◌≤◌, ◌<◌}
use native.Mathlib.Nat.{lt_of_le_of_lt, sub-le, mul-mod_left, mul-div_cancel}
use native.Mathlib.Omega.{arith}
use lib.Pow.{pow_pos}
use Rattle.ground.proofs.Cases.{by_lt}
use Rattle.prefix.specs.declared.Prefix.{Prefix}
use Rattle.prefix.specs.Prefixes.{span, top, cleared_of, WellFormed, Contains}
use Rattle.prefix.specs.declared.Route.{Route}
use Rattle.prefix.specs.Routes.{AllRoutes, IsLongest}
use Rattle.prefix.proofs.Order.{key}
use Rattle.prefix.proofs.Prefixes.{kept, nested, own, in_range_lem, by_range, same_prefix_lem}
use Rattle.runs.specs.inner.Steps.{around}

-- ---- an address's own prefix of each length

around-formed : (l a : ℕ) → l ≤ 32 → WellFormed (around l a)
around-formed l a h = record { short = h; clear = ap (λ (x : ℕ). x % span l) (kept a (span l)) ∙ mul-mod_left _ _ }

around-contains : (l a : ℕ) → Contains (around l a) a
unfolding top
around-contains l a = record { agree = ap (top l) (kept a (span l)) ∙ mul-div_cancel _ (pow_pos (32 - l)) }

-- a shorter prefix that contains a comes no later
around_after : {p : Prefix} (l a : ℕ) → WellFormed p → l ≤ 32 → Contains p a → p.length ≤ l → key p ≤ key (around l a)
around_after {p} l a w h c le =
    let q = around-formed l a h in
    let low = (in_range_lem w (nested q le c (around-contains l a) (own (around l a)))).0 in
    omega arith

-- and a's own come in the order of their lengths
pub around_order : (k l a : ℕ) → k ≤ l → l ≤ 32 → key (around k a) ≤ key (around l a)
around_order k l a le h = around_after l a (around-formed k a (omega arith)) h (around-contains k a) le

-- the first 0 bits of addresses agree
pub top_none : (a : ℕ) → a < 2 ^ 32 → top 0 a ≡ 0
unfolding top
top_none a h = omega arith

-- ---- the last route up to a's own prefix

-- no route that contains a is longer than l
abbrev pub UpTo : List Route → ℕ → ℕ → Type 0
UpTo rs a l = (r : Route) → Mem r rs → Contains r.prefix a → r.prefix.length ≤ l

-- w is the last route whose key is at most k
pub record LastUpTo (rs : List Route) (k : ℕ) (w : Route) : Type 0 where
  pub member : Mem w rs
  pub low : key w.prefix ≤ k
  pub last : (r : Route) → Mem r rs → key r.prefix ≤ k → key r.prefix ≤ key w.prefix

module _ {rs : List Route} {a l : ℕ} (all : AllRoutes rs) (short : l ≤ 32) (up_to : UpTo rs a l) where
  -- a route that contains a is among those up to a's own prefix
  reached : (r : Route) → Mem r rs → Contains r.prefix a → key r.prefix ≤ key (around l a)
  reached r m c = around_after l a (all r m).formed short c (up_to r m c)

  pub nothing : ((r : Route) → Mem r rs → key (around l a) < key r.prefix) → (r : Route) → Mem r rs → ¬ Contains r.prefix a
  nothing n r m c = let k = reached r m c in let h = n r m in omega arith

  module _ {w : Route} (at : LastUpTo rs (key (around l a)) w) where
    pub found : Contains w.prefix a → IsLongest rs a w
    found c = record { member = at.member; contains = c; longest = longest }
      where
        longest : (r : Route) → Mem r rs → Contains r.prefix a → r.prefix.length ≤ w.prefix.length
        longest r m d =
            by_lt w.prefix.length r.prefix.length
            (λ lt.
            let k = at.last r m (reached r m d) in
            let low = (in_range_lem (all w at.member).formed (nested (all r m).formed (omega arith) c d (own r.prefix))).0 in
            absurd (omega arith))
            (λ le. le)

    -- w stands at or below a
    before : w.prefix.address ≤ a
    before = let k = at.low in let c = sub-le a (a % span l) in omega arith

    -- where w does not contain a, w's address agrees with a on the length of each route that does, and this is shorter than l
    higher : ¬ Contains w.prefix a → (r : Route) → Mem r rs → Contains r.prefix a
        → (top r.prefix.length w.prefix.address ≡ top r.prefix.length a) × (r.prefix.length < l)
    higher n r m c =
        let f = (all r m).formed in
        let s = f.short in
        let t = (all w at.member).formed.short in
        let k = at.last r m (reached r m c) in
        let low = at.low in
        let there : Contains r.prefix w.prefix.address =
        by_range f (omega arith) (lt_of_le_of_lt before (in_range_lem f c).1) in
        let shorter : r.prefix.length < w.prefix.length =
        by_lt r.prefix.length w.prefix.length (λ lt. lt) (λ le. absurd (n (nested f le (own w.prefix) there c))) in (
          sym there.agree ∙ c.agree,
          by_lt r.prefix.length l (λ lt. lt) (λ le.
              let h = up_to r m c in
              let e : r.prefix.length ≡ l = omega arith in
              let same : r.prefix.address ≡ cleared_of l a =
              ap (λ (p : Prefix). p.address) (same_prefix_lem f (around-formed l a short) c (around-contains l a) e) in
              absurd (omega arith)),
        )

    -- so none is longer than a length m, if the two agree on no length between m and l
    pub climbs : {m : ℕ} → ¬ Contains w.prefix a → ((k : ℕ) → m < k → k < l → ¬ (top k w.prefix.address ≡ top k a)) → UpTo rs a m
    climbs {m} n apart r i c =
        let h = higher n r i c in
        by_lt m r.prefix.length (λ lt. absurd (apart r.prefix.length lt h.1 h.0)) (λ le. le)

    -- l is not 0, since a prefix of length 0 contains a
    pub some_length : a < 2 ^ 32 → ¬ Contains w.prefix a → 0 < l
    some_length fits n =
        by_lt 0 l (λ lt. lt) (λ z.
        let k = at.low in
        let below = before in
        let e : l ≡ 0 = omega arith in
        let first : cleared_of l a ≡ 0 = ap (λ (m : ℕ). cleared_of m a) e ∙ none in
        let whole : w.prefix.length ≡ 0 = omega arith in
        absurd (n (record {
          agree = ap (λ (m : ℕ). top m w.prefix.address) whole ∙ top_none w.prefix.address (omega arith)
              ∙ sym (ap (λ (m : ℕ). top m a) whole ∙ top_none a fits);
        })))
      where
        none : cleared_of 0 a ≡ 0
        none = omega arith
