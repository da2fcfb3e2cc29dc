-- One rule word: address * 2 ^ 32 + length * 2 ^ 16 + hop. Of the specs only this file knows the layout; all else goes by the laws of `proofs/Words`.
-- Assumes nothing.
use Rattle.std.specs.Prelude.{ℕ, ◌+◌, ◌*◌, ◌/◌, ◌%◌, ◌^◌, Bool, ◌&&◌}
use Rattle.prefix.specs.declared.Prefix.{Prefix}
use Rattle.prefix.specs.Prefixes.{encloses, Encloses}
use Rattle.prefix.specs.declared.Route.{Route}
use Rattle.prefix.specs.Routes.{is_route, IsRoute}

-- the route that a word stands for
unfoldable pub route_of : ℕ → Route
route_of word = record { prefix = record { address = word / 2 ^ 32; length = word / 2 ^ 16 % 2 ^ 16 }; hop = word % 2 ^ 16 }

-- its prefix
abbrev pub prefix_of : ℕ → Prefix
prefix_of word = (route_of word).prefix

-- the word of a route
unfoldable pub word_of : Route → ℕ
word_of r = r.prefix.address * 2 ^ 32 + r.prefix.length * 2 ^ 16 + r.hop

-- the route of a prefix through a hop
abbrev pub route_by : Prefix → ℕ → Route
route_by p h = record { prefix = p; hop = h }

-- the number by which the code compares prefixes: what a word of the prefix has before its hop
unfoldable pub key_of : Prefix → ℕ
key_of p = p.address * 2 ^ 16 + p.length

-- a rule of the territory: a prefix and hop that refusal 2 lets pass, and inside the territory
unfoldable pub is_rule : Prefix → ℕ → Bool
is_rule t word = is_route (route_of word) && encloses t (prefix_of word)

pub record IsRule (t : Prefix) (word : ℕ) : Type 0 where
  pub route : IsRoute (route_of word)
  pub inside : Encloses t (prefix_of word)
