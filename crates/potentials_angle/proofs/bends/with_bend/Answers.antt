use Rattle.potentials_angle.specs.Bend.{sum_with_bend}
use Rattle.potentials_angle.proofs.bends.with_bend.Goals as goal

pub returns : goal.returns
returns c = unfold sum_with_bend in rw (← c.with_energy-s.ensures, ← c.with_pair-t.ensures) c.with_pair.ensures
