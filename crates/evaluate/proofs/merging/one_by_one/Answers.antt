use Rattle.evaluate.proofs.Folding.{merged_two}
use lib.ListN.{length}
use Rattle.evaluate.proofs.merging.one_by_one.Goals as goal

pub returns : goal.returns
returns c = merged_two c.args.sum (length c.args.forces.now) _ _ c.clear.ensures c.with_lj-a.ensures (rw c.with_lj-a.auto.scratch at c.with_coulomb.ensures)
