use Rattle.verlet.specs.Parts.{kick_fits}
use Rattle.verlet.proofs.moves.kick_fits.Goals as goal

pub returns : goal.returns
unfolding kick_fits
returns c = rw (c.three_each.ensures, c.three_each-2.ensures)
