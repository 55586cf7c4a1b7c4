use Rattle.virial.specs.Calls.{zeros_outcome}
use borrow.Author.Tests.{eq-eqb, ne_eqb, le-leb, lt-leb}
use Rattle.virial.proofs.zeros.Goals as goal

pub returns-then-forces-ne0 : goal.returns-then-forces-ne0
unfolding zeros_outcome
returns-then-forces-ne0 c = rw (ne_eqb _ _ c.if-forces-ne0.true)

pub returns-then-atoms-gt-MOST : goal.returns-then-atoms-gt-MOST
unfolding zeros_outcome
returns-then-atoms-gt-MOST c = rw (eq-eqb _ _ c.if-forces-ne0.false, lt-leb _ _ c.if-atoms-gt-MOST.true)

pub returns : goal.returns
unfolding zeros_outcome
returns c = rw (eq-eqb _ _ c.if-forces-ne0.false, le-leb _ _ c.if-atoms-gt-MOST.false, c.zero.ensures, c.clear.ensures)
