use Rattle.evaluate.specs.Asked.{coulomb_ok}
use Rattle.evaluate.proofs.asked.coulomb_ok.Goals as goal

pub returns-in-None : goal.returns-in-None
returns-in-None c = unfold coulomb_ok in rw c.in-None.is

pub returns-in-Some : goal.returns-in-Some
returns-in-Some c = unfold coulomb_ok in rw c.in-Some.is c.cutoff_in_range.ensures
