use Rattle.potentials_angle.specs.Bend.{forces_with_bend}
use Rattle.potentials_angle.proofs.bends.push.Goals as goal

pub returns : goal.returns
returns c = unfold forces_with_bend in rw (← (rw c.add.ensures at c.scale.ensures), ← c.add_at.ensures, ← c.add_at-2.ensures) c.add_at-3.ensures
