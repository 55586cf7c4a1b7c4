use Rattle.evaluate.specs.Asked.{lj_ok}
use Rattle.evaluate.proofs.asked.lj_ok.Goals as goal

pub returns-in-None : goal.returns-in-None
returns-in-None c = unfold lj_ok in rw c.in-None.is

pub returns-in-Some : goal.returns-in-Some
returns-in-Some c = unfold lj_ok in rw c.in-Some.is c.lj_in_range.ensures
