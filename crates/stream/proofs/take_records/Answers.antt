-- The goals that the check leaves.
use Rattle.std.proofs.Common.{refl, ap, ◌∙◌, arith, rules}
use Rattle.stream.proofs.Taking.{Cut, cut_by, going_start, going_done, going_refused, going_room, going_more}
use Rattle.stream.proofs.take_records.Goals.{In-Some}
use Rattle.stream.proofs.take_records.Goals as goal

pub loop-record-init : goal.loop-record-init
loop-record-init c =
    let made = c.into_iter-record-iterator.ensures.into_iter_gives in
    let chunks = c.chunks-record-items.ensures in
    (refl, refl, refl, refl, refl, ap (λ s. s.size) made ∙ chunks.size, going_start _ _ _ _ _ (ap (λ s. s.rest.now) made ∙ chunks.rest) c.requires)

-- the chunk of an iteration
cut : (c : In-Some) → Cut c.loop-record.record-iterator.rest.now c.in-Some.record.now c.next.new.self.rest.now
cut c = cut_by c.loop-record.invariant.5 c.in-Some.ensures.steps.1

pub bounds-lines-count : goal.bounds-lines-count
bounds-lines-count c = going_room _ _ _ _ _ c.loop-record.invariant.6 (cut (goal.at.bounds-lines-count c).In-Some)

pub loop-record-preserved : goal.loop-record-preserved
loop-record-preserved c = (
  search rules,
  search rules,
  search rules,
  search rules,
  search rules,
  search rules,
  going_more _ _ _ _ _ c.loop-record.invariant.6 (cut (goal.at.loop-record-preserved c).In-Some) c.in-Ok.ensures
      (omega (arith, c.next_serial-next.ensures)),
)

pub returns-in-Err : goal.returns-in-Err
returns-in-Err c = going_refused _ _ _ _ _ c.loop-record.invariant.6 (cut (goal.at.returns-in-Err c).In-Some) c.in-Err.ensures

pub returns : goal.returns
returns c = going_done _ _ _ _ _ c.loop-record.invariant.6 c.in-None.ensures.steps.1.0
