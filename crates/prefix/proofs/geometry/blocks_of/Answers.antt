-- `geometry::blocks_of` meets its contract: a prefix of length up to 24 has whole blocks. Assumes nothing.
use Rattle.std.proofs.Common.{◌≡◌, ◌-◌, ◌*◌, ◌^◌, arith, lit≤}
use Rattle.prefix.specs.Geometry.{width}
use Rattle.prefix.specs.Prefixes.{span}
use Rattle.prefix.proofs.Spans.{span-runs}
use Rattle.prefix.proofs.geometry.blocks_of.Goals as goal

pub returns : goal.returns
returns c =
    let l = c.args.length in
    let whole : span l ≡ 2 ^ (width - l) * span width = span-runs width (lit≤ tt) (record { address = 0; length = l }) c.requires in
    omega (arith, c.span_of.ensures)
