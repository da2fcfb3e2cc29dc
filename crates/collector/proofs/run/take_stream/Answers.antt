-- The goals that the check leaves.
use Rattle.std.proofs.Common.{refl, rules}
use Rattle.collector.proofs.Running.{handed_none, handed_as, handed_failed}
use Rattle.collector.proofs.run.take_stream.Goals as goal

pub loop-init : goal.loop-init
loop-init g c = (refl, refl, refl, refl, handed_none 0 _)

pub returns-in_err-serial : goal.returns-in_err-serial
returns-in_err-serial g c = handed_failed _ c.from_residual.ensures.0 c.loop.invariant.4 c.in_err-serial.ensures

pub returns-in-Ends : goal.returns-in-Ends
returns-in-Ends g c = handed_as c.loop.invariant.4 c.in_ok-serial.ensures c.in-Ends.is

pub loop-preserved : goal.loop-preserved
loop-preserved g c = (search rules, search rules, search rules, search rules, handed_as c.loop.invariant.4 c.in_ok-serial.ensures c.in-Expects.is)
