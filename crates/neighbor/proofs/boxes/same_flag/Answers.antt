use Rattle.neighbor.specs.Rebuild.{same_flag}
use Rattle.neighbor.proofs.boxes.same_flag.Goals as goal

pub returns-then-a : goal.returns-then-a
unfolding same_flag
returns-then-a c = simp c.if-a.true

pub returns : goal.returns
unfolding same_flag
returns c = simp c.if-a.false
