use Rattle.evaluate.proofs.Folding.{merged_both}
use Rattle.evaluate.specs.Terms.{lj_gives, coulomb_gives}
use Rattle.evaluate.proofs.merging.with_pairs.Goals as goal

pub returns : goal.returns
returns c = unfold lj_gives in unfold coulomb_gives in rw (c.in-Some.is, c.in-Some-coulomb.is, c.if-forces-scratch.false) (merged_both _ _ _ (rw c.if-forces-scratch.false at c.at_once.ensures))
