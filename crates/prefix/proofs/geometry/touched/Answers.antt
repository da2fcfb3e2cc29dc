-- `geometry::touched` meets its contract: a prefix longer than a block touches the one that it lies in. Assumes nothing.
use Rattle.std.proofs.Common.{◌≡◌, ℕ, ◌-◌, ◌^◌, sym, ap, arith}
use Rattle.prefix.specs.Geometry.{width}
use Rattle.prefix.proofs.geometry.touched.Goals as goal

pub returns-then-length-gt-WIDTH : goal.returns-then-length-gt-WIDTH
returns-then-length-gt-WIDTH c =
    let s = c.args in
    let none : width - s.prefix.length ≡ 0 = omega arith in
    let one : 1 ≡ 2 ^ (width - s.prefix.length) = sym (ap (λ (n : ℕ). 2 ^ n) none) in
    λ i. record { from = c.block_of-from.ensures i; count = one i }

pub returns : goal.returns
returns c = λ i. record { from = c.block_of-from.ensures i; count = c.blocks_of.ensures i }
