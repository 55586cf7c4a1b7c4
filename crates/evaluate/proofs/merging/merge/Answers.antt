use Rattle.evaluate.proofs.Folding.{merged_by}
use Rattle.evaluate.proofs.merging.merge.Goals as goal

pub returns : goal.returns
returns c = merged_by _ _ _ _ c.merge_forces.ensures c.merge_sum.ensures
