-- `sizes::lent` meets its contract: each test that fails is one that the sizes had to pass. Assumes nothing.
use mathlib.Core.Path.{sym}
use native.Mathlib.Omega.{arith}
use Rattle.ground.proofs.Tests.{eqb?, iff?, stops, if_so, if_not, same_test}
use Rattle.prefix.specs.Geometry.{Territory}
use Rattle.prefix.proofs.Spans.{is_territory?}
use Rattle.cells.proofs.Lending.{lent_to_update?}
use Rattle.cells.proofs.sizes.lent.Goals.{Else-not-is_territory}
use Rattle.std.proofs.Common.{ap, not}
use Rattle.cells.proofs.sizes.lent.Goals as goal

pub returns-then-owners-gt-SEGMENTS : goal.returns-then-owners-gt-SEGMENTS
returns-then-owners-gt-SEGMENTS c =
    let s = c.args in
    sym (stops (lent_to_update? s.first s.long s.owners s.rules s.territory) (λ l. omega (arith, l.few_segments)))

pub returns-then-rules-gt-RULES : goal.returns-then-rules-gt-RULES
returns-then-rules-gt-RULES c =
    let s = c.args in
    sym (stops (lent_to_update? s.first s.long s.owners s.rules s.territory) (λ l. omega (arith, l.few_rules)))

pub returns-then-long-owners : goal.returns-then-long-owners
returns-then-long-owners c =
    let s = c.args in
    sym (stops (lent_to_update? s.first s.long s.owners s.rules s.territory) (λ l. c.if-long-owners.true l.whole_segments))

pub returns-then-not-is_territory : goal.returns-then-not-is_territory
returns-then-not-is_territory c =
    let s = c.args in
    sym (stops (lent_to_update? s.first s.long s.owners s.rules s.territory) (λ l.
    if_not (is_territory? s.territory) c.is_territory.ensures (ap not c.if-not-is_territory.true) l.territory))

-- past the fourth test the territory is one
territory : (c : Else-not-is_territory) → Territory c.args.territory
territory c =
    if_so (is_territory? c.args.territory) c.is_territory.ensures (ap not c.if-not-is_territory.false)

pub blocks_of-requires : goal.blocks_of-requires
blocks_of-requires c = (territory (goal.at.blocks_of-requires c).Else-not-is_territory).wide

pub returns : goal.returns
returns c =
    let s = c.args in
    same_test (eqb? s.first c.blocks_of.result)
    (iff? (lent_to_update? s.first s.long s.owners s.rules s.territory) (λ l. omega (arith, l.a_cell_a_block))
    (λ e. record {
      territory = territory (goal.at.returns c).Else-not-is_territory;
      a_cell_a_block = omega arith;
      whole_segments = omega arith;
      few_segments = omega arith;
      few_rules = omega arith;
    }))
