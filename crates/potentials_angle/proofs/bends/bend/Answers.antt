use Rattle.potentials_angle.specs.Bend.{bend_of}
use Rattle.potentials_angle.proofs.bends.bend.Goals as goal

pub returns-then-is_short_arm : goal.returns-then-is_short_arm
returns-then-is_short_arm c = unfold bend_of in rw (← c.norm-lij.ensures, ← c.norm-lkj.ensures, ← c.is_short_arm.ensures, c.if-is_short_arm.true)

pub returns : goal.returns
returns c = unfold bend_of in rw (← c.norm-lij.ensures, ← c.norm-lkj.ensures, ← c.is_short_arm.ensures, c.if-is_short_arm.false, c.near.ensures)
