use Rattle.virial.specs.Calls.{pair_outcome}
use borrow.Author.Tests.{le-leb, lt-leb, not-true, not-false, eq-eqb, ne_eqb}
use Rattle.std.proofs.Common.{ap, not}
use Rattle.virial.proofs.add_pair_force.Goals as goal

pub returns-then-forces-ne0 : goal.returns-then-forces-ne0
unfolding pair_outcome
returns-then-forces-ne0 c = rw (ne_eqb _ _ c.if-forces-ne0.true)

pub returns-then-atoms-gt-MOST : goal.returns-then-atoms-gt-MOST
unfolding pair_outcome
returns-then-atoms-gt-MOST c = rw (eq-eqb _ _ c.if-forces-ne0.false, lt-leb _ _ c.if-atoms-gt-MOST.true)

pub returns-then-not-pair_in_range : goal.returns-then-not-pair_in_range
unfolding pair_outcome
returns-then-not-pair_in_range c = rw (eq-eqb _ _ c.if-forces-ne0.false, le-leb _ _ c.if-atoms-gt-MOST.false, ← c.pair_in_range.ensures, not-true c.pair_in_range.result (ap not c.if-not-pair_in_range.true))

pub returns-then-a-atoms : goal.returns-then-a-atoms
unfolding pair_outcome
returns-then-a-atoms c = rw (eq-eqb _ _ c.if-forces-ne0.false, le-leb _ _ c.if-atoms-gt-MOST.false, ← c.pair_in_range.ensures, not-false c.pair_in_range.result (ap not c.if-not-pair_in_range.false), c.if-a-atoms.true, c.add_pair_force.ensures.0, c.add_pair_force.ensures.1)

pub returns : goal.returns
unfolding pair_outcome
returns c = rw (eq-eqb _ _ c.if-forces-ne0.false, le-leb _ _ c.if-atoms-gt-MOST.false, ← c.pair_in_range.ensures, not-false c.pair_in_range.result (ap not c.if-not-pair_in_range.false), c.if-a-atoms.false)
