use Rattle.evaluate.proofs.Folding.{merged_four}
use Rattle.evaluate.specs.Terms.{contributions}
use lib.ListN.{length}
use mathlib.Core.Path.{◌∙◌, refl}
use Rattle.evaluate.proofs.merging.all.Goals as goal

pub shape_of-scratch : goal.shape_of-scratch
shape_of-scratch c = c.with_angles.auto.scratch ∙ c.with_bonds-c.auto.scratch ∙ c.with_pairs-b.auto.scratch

pub shape_of-forces : goal.shape_of-forces
shape_of-forces c = c.with_angles.auto.forces ∙ c.with_bonds-c.auto.forces ∙ c.with_pairs-b.auto.forces

pub returns : goal.returns
returns c = unfold contributions in merged_four (length c.args.forces.now) _ _ _ _ refl c.zero-a.ensures refl c.with_pairs-b.ensures (rw c.with_pairs-b.auto.scratch at c.with_bonds-c.ensures) (rw (c.with_bonds-c.auto.scratch, c.with_pairs-b.auto.scratch) at c.with_angles.ensures)
