use Rattle.evaluate.proofs.Lists.{evaluated_lists}
use Rattle.evaluate.proofs.Settling.{evaluated_refused, evaluated_on}
use Rattle.evaluate.specs.Calls.{Job, job_on}
use Rattle.evaluate.proofs.evaluate.Goals as goal

pub returns-in-Err : goal.returns-in-Err
returns-in-Err c = let a = c.args in let j : Job = job_on a.setting a.s a.molecule.now a.positions.now a.exclusions.now a.pairs.now a.references.now a.starts.now a.items.now a.forces.now in let h = evaluated_refused j c.asked-a.ensures c.in-Err.is c.refused.ensures in record { says = h; lists = evaluated_lists j c.refused.result h }

pub returns : goal.returns
returns c = let a = c.args in let j : Job = job_on a.setting a.s a.molecule.now a.positions.now a.exclusions.now a.pairs.now a.references.now a.starts.now a.items.now a.forces.now in let h = evaluated_on j c.asked-a.ensures c.in_default.is c.settle.ensures in record { says = h; lists = evaluated_lists j c.settle.result h }
