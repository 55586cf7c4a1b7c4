use Rattle.frame.specs.Distance.{edge_ok}
use Rattle.frame.proofs.asked.edge_ok.Goals as goal

pub returns : goal.returns
unfolding edge_ok
returns c = c.is_edge.ensures
