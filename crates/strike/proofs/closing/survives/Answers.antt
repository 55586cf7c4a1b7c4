use Rattle.strike.specs.Closed.{survives}
use borrow.Author.Tests.{lt-ltb, le-ltb}
use Rattle.strike.proofs.closing.survives.Goals as goal

pub returns-then-i-marks : goal.returns-then-i-marks
returns-then-i-marks c = unfold survives in simp (lt-ltb _ _ c.if-i-marks.true)

pub returns : goal.returns
returns c = unfold survives in simp (le-ltb _ _ c.if-i-marks.false)
