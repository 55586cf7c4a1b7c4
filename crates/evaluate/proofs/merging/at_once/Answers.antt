use Rattle.evaluate.proofs.Folding.{merged_at_once}
use lib.ListN.{length}
use Rattle.evaluate.proofs.merging.at_once.Goals as goal

pub returns : goal.returns
returns c = merged_at_once c.args.sum c.both_pairs-own.result.lj c.both_pairs-own.result.coulomb (length c.args.forces.now) c.both_pairs-own.new.forces c.both_pairs-own.new.others c.both_pairs-own.ensures.forces_after c.both_pairs-own.ensures.others_after c.both_pairs-own.auto.forces c.onto_zero.ensures c.merge_sum-a.ensures c.merge.ensures
