use Rattle.frame.specs.Distance.{squared_of}
use Rattle.frame.proofs.distance.squared.Goals as goal

pub returns : goal.returns
unfolding squared_of
returns c = simp (c.leg-x.ensures.0, c.leg-y.ensures.0, c.leg-z.ensures.0)
