use Rattle.potentials_angle.specs.Terms.{angle_at}
use borrow.Author.Tests.{lt-ltb, le-ltb}
use Rattle.potentials_angle.proofs.over.angle_at.Goals as goal

pub returns-then-r-per_angle : goal.returns-then-r-per_angle
returns-then-r-per_angle c = unfold angle_at in rw (lt-ltb _ _ c.if-r-per_angle.true) c.angle_row.ensures

pub returns : goal.returns
returns c = unfold angle_at in rw (le-ltb _ _ c.if-r-per_angle.false)
