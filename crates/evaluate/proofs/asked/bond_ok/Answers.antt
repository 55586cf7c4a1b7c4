use Rattle.evaluate.specs.Asked.{bond_ok}
use Rattle.evaluate.proofs.asked.bond_ok.Goals as goal

pub returns-in-None : goal.returns-in-None
returns-in-None c = unfold bond_ok in rw c.in-None.is

pub returns-in-Some : goal.returns-in-Some
returns-in-Some c = unfold bond_ok in rw c.in-Some.is c.bond_in_range.ensures
