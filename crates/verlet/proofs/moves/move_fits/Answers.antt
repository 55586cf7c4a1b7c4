use Rattle.verlet.specs.Parts.{move_fits}
use Rattle.verlet.proofs.moves.move_fits.Goals as goal

pub returns : goal.returns
unfolding move_fits
returns c = rw (c.kick_fits.ensures, c.three_each.ensures)
