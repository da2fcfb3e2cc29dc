-- `take::unpaint_or_close` meets its contract: where the block closes, what is repainted before does not show, and else the cells are
-- repainted. Assumes nothing.
use mathlib.Core.Path.{◌≡◌, sym, ap, ◌∙◌}
use native.Mathlib.Omega.{arith}
use Rattle.prefix.specs.declared.geometry.Blocks.{Blocks}
use Rattle.prefix.specs.Geometry.{block_of}
use Rattle.prefix.proofs.Prefixes.{in_range_lem}
use Rattle.prefix.proofs.Spans.{aligned}
use Rattle.rules.specs.Rules.{routes}
use Rattle.tables.specs.Changes.{closes}
use Rattle.updates.proofs.Taking.{closes_here, closable, unpainted_closed, unpainted_open}
use Rattle.updates.proofs.take.unpaint_or_close.Goals.{After-closes_block, Start}
use Rattle.updates.proofs.take.unpaint_or_close.Goals as goal

-- the first block is that of the prefix
own_block : (c : Start) → c.args.blocks.from ≡ block_of c.args.territory c.args.prefix.address
own_block c = ap (λ (x : Blocks). x.from) c.requires.touched_blocks

-- the test is whether the block closes
closing : (c : After-closes_block) → c.closes_block.result ≡ closes c.args.territory c.args.prefix (routes c.args.live.words.now)
closing c =
    closes_here c.requires.repaintable (routes c.args.live.words.now) (own_block (goal.at.After-closes_block c).Start) c.block_start-start.ensures c.closes_block.ensures

pub block_start-start-requires : goal.block_start-start-requires
block_start-start-requires c =
    let t = c.requires.repaintable.ready.sized.territory in
    omega (arith, own_block (goal.at.block_start-start-requires c).Start, (in_range_lem t.formed c.requires.repaintable.ready.inside.inside).0, c.well_formed)

pub closes_block-requires : goal.closes_block-requires
closes_block-requires c =
    omega (arith, c.block_start-start.ensures, aligned c.requires.repaintable.ready.sized.territory)

pub close-requires : goal.close-requires
close-requires c =
    let at = goal.at.close-requires c in
    record { closable = closable c.requires.repaintable (routes c.args.live.words.now) (own_block at.Start) c.block_start-start.ensures (sym (closing at.After-closes_block) ∙ c.if-closes_block.true); block_of_prefix = own_block at.Start }

pub returns-then-closes_block : goal.returns-then-closes_block
returns-then-closes_block c =
    let at = goal.at.returns-then-closes_block c in
    unpainted_closed c.requires.repaintable (routes c.args.live.words.now) (own_block at.Start) c.block_start-start.ensures (sym (closing at.After-closes_block) ∙ c.if-closes_block.true)
    c.close.ensures (omega (arith, c.longest-run.ensures.is))

pub unpaint-requires : goal.unpaint-requires
unpaint-requires c = let s = c.requires in record { repaintable = s.repaintable; touched_blocks = s.touched_blocks }

pub returns : goal.returns
returns c =
    let at = goal.at.returns c in
    unpainted_open c.requires.repaintable (routes c.args.live.words.now) (own_block at.Start) c.block_start-start.ensures (sym (closing at.After-closes_block) ∙ c.if-closes_block.false) c.unpaint.ensures
