-- Laws of one rule word: a word and its route are each other's, what the code reads of a word, the order of words, and what `is_rule`
-- decides. Only here and in `word` is the layout known. Assumes nothing.
use mathlib.Core.Path.{◌≡◌, refl, sym, ap, ◌∙◌}
use mathlib.Core.Logic.{◌↔◌}
use Prim.Native.Nat.{ℕ, ◌+◌, ◌-◌, ◌*◌, ◌/◌, ◌%◌, ◌^◌, ◌≤◌, ◌<◌}
use native.Mathlib.Omega.{arith}
use lib.Dec.{eqb}
use borrow.Author.Tests.{eq-eqb}
use Rattle.ground.proofs.Tests.{Decides, eqb?, and?, iff?, says, same_test}
use Rattle.prefix.specs.declared.Prefix.{Prefix}
use Rattle.prefix.specs.Prefixes.{span, cleared_of, Before}
use Rattle.prefix.specs.Geometry.{Territory}
use Rattle.prefix.specs.declared.Route.{Route}
use Rattle.prefix.specs.Routes.{last_hop, IsRoute}
use Rattle.prefix.proofs.Prefixes.{contains?, encloses?, clear?, cleared?}
use Rattle.prefix.proofs.Order.{key, key_order, same_key}
use Rattle.prefix.proofs.Best.{is_route?}
use Rattle.rules.specs.Words.{prefix_of, route_of, route_by, word_of, key_of, is_rule, IsRule}

-- ---- a word and its route

pub word_route : (w : ℕ) → word_of (route_of w) ≡ w
unfolding route_of word_of
word_route w = omega arith

pub route_word : (r : Route) → IsRoute r → route_of (word_of r) ≡ r
unfolding route_of word_of
route_word r i =
    let short = i.formed.short in
    let fits = i.hop_fits in
    let address : word_of r / 2 ^ 32 ≡ r.prefix.address = omega arith in
    let length : word_of r / 2 ^ 16 % 2 ^ 16 ≡ r.prefix.length = omega arith in
    let hop : word_of r % 2 ^ 16 ≡ r.hop = omega arith in
    λ i. record { prefix = record { address = address i; length = length i }; hop = hop i }

-- a word with a hop is not 0
pub some_word : (w : ℕ) → IsRoute (route_of w) → w ≡ 0 → ⊥
unfolding route_of
some_word w i e = omega (arith, i.some_hop)

pub some_route : (r : Route) → IsRoute r → word_of r ≡ 0 → ⊥
unfolding word_of
some_route r i e = omega (arith, i.some_hop)

-- ---- what the code reads and makes

pub route_is : (w : ℕ) → record { prefix = record { address = w / 2 ^ 32; length = w / 2 ^ 16 % 2 ^ 16 }; hop = w % 2 ^ 16 } ≡ route_of w
unfolding route_of
route_is w = refl

pub word_key : (w : ℕ) → w / 2 ^ 16 ≡ key_of (prefix_of w)
unfolding route_of key_of
word_key w = omega arith

pub key_is : (p : Prefix) → p.address * 2 ^ 16 + p.length ≡ key_of p
unfolding key_of
key_is p = refl

pub word_is : (p : Prefix) (h : ℕ) → p.address * 2 ^ 32 + p.length * 2 ^ 16 + h ≡ word_of (route_by p h)
unfolding word_of
word_is p h = refl

-- ---- the order of words

-- on prefixes of length at most 32 it is the order of (address, length), and tells them apart
module _ (p q : Prefix) (h : p.length ≤ 32) (k : q.length ≤ 32) where
  pub key_less : (key_of p < key_of q) ↔ (key p < key q)
  unfolding key_of
  key_less = (λ l. omega arith, λ l. omega arith)

  pub word_order : (key_of p < key_of q) ↔ Before p q
  word_order = let o = key_order p q h k in (λ l. o.0 (key_less.0 l), λ b. key_less.1 (o.1 b))

  pub key_same : (key_of p ≡ key_of q) ↔ (p ≡ q)
  unfolding key_of
  key_same = (λ e. same_key p q h k (omega arith), ap key_of)

-- the shortest prefix of an address comes before all of a higher address, and before none of a lower one
pub key_from : (a : ℕ) (p : Prefix) → p.length ≤ 32 → (key_of p < key_of (record { address = a; length = 0 })) ↔ (p.address < a)
unfolding key_of
key_from a p h = (λ l. omega arith, λ l. omega arith)

-- there is room for one more
pub key_room : (p : Prefix) → p.length ≤ 32 → p.address < 2 ^ 32 → key_of p < 2 ^ 63
unfolding key_of
key_room p h l = omega arith

pub word_room : (w : ℕ) → w < 2 ^ 64 → key_of (prefix_of w) < 2 ^ 63
word_room w h = omega (arith, word_key w)

-- ---- a rule of a territory

pub is_rule? : (t : Prefix) (w : ℕ) → Decides (IsRule t w) (is_rule t w)
unfolding is_rule
is_rule? t w =
    iff? (and? (is_route? (route_of w)) (encloses? t (prefix_of w)))
    (λ h. record { route = h.0; inside = h.1 })
    (λ r. (r.route, r.inside))

-- The code's two tests of the address, in the numbers that it has: a and l are the word's address and length, m and n are a with the bits
-- after the word's length and after the territory's cleared.
module _ (t : Prefix) (w a l m : ℕ) (ea : a ≡ (prefix_of w).address) (el : l ≡ (prefix_of w).length) (em : m ≡ cleared_of l a) where
  -- a rule's own bits are all before its length
  pub rule_clear : IsRule t w → m ≡ a
  rule_clear r =
      let f : (prefix_of w).address % span (prefix_of w).length ≡ 0 = r.route.formed.clear in
      let z : a % span l ≡ 0 = cc in
      omega arith

  -- a route at least as long as the territory is one of its rules exactly if the territory contains its address
  pub rule_inside : (n : ℕ) → Territory t → 1 ≤ (route_of w).hop → (route_of w).hop ≤ last_hop → l ≤ 32 → t.length ≤ l → m ≡ a
      → n ≡ cleared_of t.length a → eqb n t.address ≡ is_rule t w
  rule_inside n h hop hop_fits short long e en =
      let z : a % span l ≡ 0 = says (clear? a (span l)) (eq-eqb (a - a % span l) a (sym em ∙ e)) in
      let route : IsRoute (route_of w) = record { formed = record { short = omega arith; clear = cc }; some_hop = hop; hop_fits = hop_fits } in
      let same : n ≡ cleared_of t.length (prefix_of w).address = en ∙ ap (cleared_of t.length) ea in
      ap (λ (x : ℕ). eqb x t.address) same
      ∙ same_test (eqb? (cleared_of t.length (prefix_of w).address) t.address) (cleared? (prefix_of w).address h.formed)
      ∙ same_test (contains? t (prefix_of w).address)
      (iff? (is_rule? t w) (λ r. r.inside.inside) (λ c. record { route = route; inside = record { longer = omega arith; inside = c } }))
