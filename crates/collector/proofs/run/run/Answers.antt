-- `run` meets its contract: clear, then what was handed over, then the counts, where something failed as well. Assumes nothing.
use Rattle.collector.proofs.Running.{ended_with, ended_failed}
use Rattle.collector.proofs.run.run.Goals as goal

pub returns-in-Ok : goal.returns-in-Ok
returns-in-Ok g c = ended_with c.requires c.clear.ensures c.in-Ok.ensures c.code.ensures c.counted.ensures

pub returns-in-Err : goal.returns-in-Err
returns-in-Err g c = ended_failed c.requires c.clear.ensures c.in-Err.ensures c.counted-in-Err.ensures
