use Rattle.potentials_angle.proofs.bends.apply.Goals as goal

pub returns-in-None : goal.returns-in-None
returns-in-None c = rw c.in-None.is

pub returns-in-Some : goal.returns-in-Some
returns-in-Some c = rw (c.in-Some.is, c.push.ensures, c.with_bend.ensures)
