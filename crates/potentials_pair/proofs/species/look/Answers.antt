use Rattle.potentials_pair.specs.Species.{look_by}
use Rattle.potentials_pair.proofs.species.look.Goals as goal

pub returns : goal.returns
returns c = unfold look_by in rw (← c.row_of-row.ensures) c.read.ensures
