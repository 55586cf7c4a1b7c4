use Rattle.neighbor.specs.Rebuild.{claims_more}
use Rattle.neighbor.proofs.asked.claims_more.Goals as goal

pub returns : goal.returns
unfolding claims_more
returns c = simp c.cell_in_range.ensures
