use Rattle.evaluate.proofs.Folding.{merged_one, merged_none}
use Rattle.evaluate.specs.Terms.{lj_gives}
use Rattle.evaluate.proofs.merging.with_lj.Goals as goal

pub returns-in_default : goal.returns-in_default
returns-in_default c = unfold lj_gives in rw c.in_default.is (merged_none _)

pub returns : goal.returns
returns c = unfold lj_gives in rw c.in-Some.is (merged_one _ c.lj_pairs-own.ensures c.merge.ensures)
