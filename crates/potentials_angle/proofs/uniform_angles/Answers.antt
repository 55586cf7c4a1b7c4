use Rattle.potentials_angle.proofs.uniform_angles.Goals as goal

pub returns-then-angle_in_range : goal.returns-then-angle_in_range
returns-then-angle_in_range c = rw (← c.angle_in_range.ensures, c.if-angle_in_range.true)

pub returns : goal.returns
returns c = rw (← c.angle_in_range.ensures, c.if-angle_in_range.false)
