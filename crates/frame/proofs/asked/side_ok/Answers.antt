use Rattle.frame.specs.Distance.{side_ok}
use Rattle.frame.proofs.asked.side_ok.Goals as goal

pub returns : goal.returns
unfolding side_ok
returns c = simp c.edge_ok.ensures
