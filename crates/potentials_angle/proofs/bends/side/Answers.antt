use Rattle.potentials_angle.specs.Bend.{side_of}
use Rattle.potentials_angle.proofs.bends.side.Goals as goal

pub returns : goal.returns
returns c = unfold side_of in rw (c.scale-3.ensures, c.sub.ensures, c.scale.ensures, c.scale-2.ensures)
