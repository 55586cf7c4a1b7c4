use Rattle.potentials_pair.specs.Once.{energy_by}
use Rattle.potentials_pair.proofs.lennard_jones.energy.Goals as goal

pub returns-then-shift : goal.returns-then-shift
returns-then-shift c = unfold energy_by in rw c.if-shift.true

pub returns : goal.returns
returns c = unfold energy_by in rw c.if-shift.false
