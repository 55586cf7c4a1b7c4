use Rattle.evaluate.proofs.Settling.{settled_by_lem}
use Rattle.evaluate.specs.Calls.{Job, job_on}
use Rattle.evaluate.proofs.kernel.settle.Goals as goal

pub returns : goal.returns
returns c = let a = c.args in let j : Job = job_on a.setting a.s a.molecule.now a.positions.now a.exclusions.now a.pairs.now a.references.now a.starts.now a.items.now a.forces.now in settled_by_lem j c.update-u.ensures c.after_list.ensures.0 c.after_list.ensures.1
