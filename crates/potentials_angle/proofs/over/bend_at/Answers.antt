use Rattle.potentials_angle.specs.Terms.{angle_bend}
use Rattle.potentials_angle.proofs.over.bend_at.Goals as goal

pub returns : goal.returns
returns c = unfold angle_bend in rw (← c.angle_at-a.ensures, ← c.arm-rij.ensures, ← c.arm-rkj.ensures) c.bend.ensures
