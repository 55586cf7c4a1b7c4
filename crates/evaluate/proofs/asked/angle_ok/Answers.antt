use Rattle.evaluate.specs.Asked.{angle_ok}
use Rattle.evaluate.proofs.asked.angle_ok.Goals as goal

pub returns-in-None : goal.returns-in-None
returns-in-None c = unfold angle_ok in rw c.in-None.is

pub returns-in-Some : goal.returns-in-Some
returns-in-Some c = unfold angle_ok in rw c.in-Some.is c.angle_in_range.ensures
