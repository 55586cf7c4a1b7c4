use Rattle.neighbor_asked.specs.Asked.{settings_ok}
use Rattle.neighbor_asked.proofs.asked.settings_ok.Goals as goal

pub returns : goal.returns
unfolding settings_ok
returns c = simp (c.is_between.ensures, c.is_within.ensures)
