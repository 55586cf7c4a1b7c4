use Rattle.frame.specs.Laying.{narrow}
use Rattle.frame.proofs.laying.is_narrow.Goals as goal

pub returns : goal.returns
unfolding narrow
returns c = c.is_narrow.ensures
