use Rattle.potentials_angle.specs.Bend.{bend_near}
use Rattle.potentials_angle.proofs.bends.near.Goals as goal

pub returns : goal.returns
returns c = unfold bend_near in rw (c.side-fi.ensures, c.side-fk.ensures, c.clamp-c.ensures, c.dot.ensures)
