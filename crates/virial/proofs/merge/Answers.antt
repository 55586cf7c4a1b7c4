use Rattle.virial.specs.Calls.{merge_outcome}
use borrow.Author.Tests.{le-leb, lt-leb, not-true, not-false}
use Rattle.std.proofs.Common.{ap, not}
use Rattle.virial.proofs.merge.Goals as goal

pub returns-then-not-merge_fits : goal.returns-then-not-merge_fits
unfolding merge_outcome
returns-then-not-merge_fits c = rw (← c.merge_fits.ensures, not-true c.merge_fits.result (ap not c.if-not-merge_fits.true))

pub returns-then-atoms-gt-MOST : goal.returns-then-atoms-gt-MOST
unfolding merge_outcome
returns-then-atoms-gt-MOST c = rw (← c.merge_fits.ensures, not-false c.merge_fits.result (ap not c.if-not-merge_fits.false), lt-leb _ _ c.if-atoms-gt-MOST.true)

pub returns-then-not-merge_in_range : goal.returns-then-not-merge_in_range
unfolding merge_outcome
returns-then-not-merge_in_range c = rw (← c.merge_fits.ensures, not-false c.merge_fits.result (ap not c.if-not-merge_fits.false), le-leb _ _ c.if-atoms-gt-MOST.false, ← c.merge_in_range.ensures, not-true c.merge_in_range.result (ap not c.if-not-merge_in_range.true))

pub returns : goal.returns
unfolding merge_outcome
returns c = rw (← c.merge_fits.ensures, not-false c.merge_fits.result (ap not c.if-not-merge_fits.false), le-leb _ _ c.if-atoms-gt-MOST.false, ← c.merge_in_range.ensures, not-false c.merge_in_range.result (ap not c.if-not-merge_in_range.false), c.merge_sum.ensures, c.merge_forces.ensures)
