use Rattle.strike.specs.Calls.{atom_in_range}
use Rattle.strike.proofs.asked.atom_in_range.Goals as goal

pub returns : goal.returns
returns c = unfold atom_in_range in cc
