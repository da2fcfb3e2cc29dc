-- What the test of a direct cell decides. Assumes nothing.
use Prim.Native.Nat.{ℕ, ◌≤◌}
use Rattle.ground.proofs.Tests.{Decides, leb?, and?, iff?}
use Rattle.prefix.specs.Routes.{last_hop}
use Rattle.cells.specs.Cells.{hop_of, length_of, is_direct}

-- hop 1 to 32,767, and a length of at most `longest`
pub record Direct (longest cell : ℕ) : Type 0 where
  pub some_hop : 1 ≤ hop_of cell
  pub hop_fits : hop_of cell ≤ last_hop
  pub length_fits : length_of cell ≤ longest

pub is_direct? : (longest cell : ℕ) → Decides (Direct longest cell) (is_direct longest cell)
unfolding is_direct
is_direct? longest cell =
    iff? (and? (and? (leb? 1 (hop_of cell)) (leb? (hop_of cell) last_hop)) (leb? (length_of cell) longest))
    (λ h. record { some_hop = h.0.0; hop_fits = h.0.1; length_fits = h.1 })
    (λ d. ((d.some_hop, d.hop_fits), d.length_fits))
