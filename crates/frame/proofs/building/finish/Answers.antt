use Rattle.frame.specs.Build.{shown_of}
use borrow.Author.Tests.{le-leb, lt-leb}
use Rattle.frame.proofs.building.finish.Goals as goal

pub returns-then-count-room : goal.returns-then-count-room
unfolding shown_of
returns-then-count-room c = simp (le-leb _ _ c.if-count-room.true, c.checks_of-checks.ensures)

pub returns : goal.returns
unfolding shown_of
returns c = simp (lt-leb _ _ c.if-count-room.false)
