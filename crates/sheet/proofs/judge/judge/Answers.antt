use Rattle.sheet.proofs.judge.judge.Goals as goal

pub returns : goal.returns
returns c = rw c.in-Some.is c.count_of.ensures

pub returns-in_default : goal.returns-in_default
returns-in_default c = rw c.in_default.is
