use Rattle.frame.specs.Distance.{near_of}
use Rattle.frame.proofs.distance.is_near.Goals as goal

pub returns : goal.returns
unfolding near_of
returns c = simp (c.squared.ensures, c.square.ensures.0)
