use Rattle.potentials_angle.specs.Rows.{corner_at}
use Rattle.potentials_angle.proofs.rows.corner_at.Goals as goal

pub returns : goal.returns
returns c = unfold corner_at in rw (c.wide.ensures, c.wide-2.ensures, c.wide-3.ensures)
