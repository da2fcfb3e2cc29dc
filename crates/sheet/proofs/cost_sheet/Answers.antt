-- `cost_sheet` meets its contract: what the tests let pass is sound, and is sorted. Assumes nothing.
use native.Mathlib.Omega.{arith}
use Rattle.ground.proofs.Tests.{if_so}
use Rattle.sheet.proofs.Counts.{all_hops, hops_kept, hops_permuted}
use Rattle.sheet.proofs.Refusing.{Tested, within?, filled_0, tested_sound}
use Rattle.sheet.proofs.Sorted.{ranked}
use Rattle.std.proofs.Common.{ap, not}
use Rattle.sheet.proofs.cost_sheet.Goals.{Else-not-within-2}
use Rattle.sheet.proofs.cost_sheet.Goals as goal

-- past all tests
tested : (c : Else-not-within-2) → let s = c.args in Tested s.octets.now s.cents.now s.hops.now
tested c =
    let s = c.args in
    record {
      sizes = ((omega arith, omega arith), omega arith);
      octets = if_so (within? 0 s.octets.now) c.within.ensures (ap not c.if-not-within.false);
      cents = if_so (within? 1 s.cents.now) c.within-2.ensures (ap not c.if-not-within-2.false);
    }

pub invariant_of-ledger : goal.invariant_of-ledger
invariant_of-ledger c = record { sound = tested_sound (tested (goal.at.invariant_of-ledger c).Else-not-within-2) }

pub sort-requires : goal.sort-requires
sort-requires c = record { hops = all_hops c.number.ensures }

pub sort-requires-then-not-sort : goal.sort-requires-then-not-sort
sort-requires-then-not-sort c = record { hops = hops_kept (all_hops c.number.ensures) c.sort.ensures.kept }

pub returns-then-not-sort : goal.returns-then-not-sort
returns-then-not-sort c =
    let t = tested (goal.at.returns-then-not-sort c).Else-not-within-2 in
    let e = c.sort-then-not-sort.ensures in
    filled_0 t (ranked (tested_sound t) (hops_permuted (hops_permuted c.number.ensures c.sort.ensures.kept) e.kept) e.sorted)

pub returns-else-not-sort : goal.returns-else-not-sort
returns-else-not-sort c =
    let t = tested (goal.at.returns-else-not-sort c).Else-not-within-2 in
    let e = c.sort.ensures in
    filled_0 t (ranked (tested_sound t) (hops_permuted c.number.ensures e.kept) (e.sorted c.if-not-sort.false))
