use Rattle.evaluate.specs.Asked.{angles_named}
use borrow.Author.Tests.{lt-ltb, le-ltb}
use Rattle.evaluate.proofs.asked.asked_angles.Goals as goal

pub returns-then-row-angles : goal.returns-then-row-angles
returns-then-row-angles c = unfold angles_named in rw (← c.first_missing-row.ensures, lt-ltb _ _ c.if-row-angles.true)

pub returns : goal.returns
returns c = unfold angles_named in rw (← c.first_missing-row.ensures, le-ltb _ _ c.if-row-angles.false)
