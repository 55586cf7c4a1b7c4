use Rattle.neighbor_asked.specs.Strays.{strayed}
use Rattle.neighbor_asked.proofs.strays.is_far_long.Goals as goal

pub returns : goal.returns
unfolding strayed
returns c = cc
