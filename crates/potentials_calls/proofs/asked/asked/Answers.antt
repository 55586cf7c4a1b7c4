use Rattle.potentials.specs.Calls.{asked_by}
use borrow.Author.Tests.{not-true, not-false, lt-leb, le-leb, lt-ltb, le-ltb}
use Rattle.std.proofs.Common.{ap, not}
use Rattle.potentials_calls.proofs.asked.asked.Goals as goal

pub returns-then-not-fits : goal.returns-then-not-fits
returns-then-not-fits c = unfold asked_by in rw (not-true c.args.fits (ap not c.if-not-fits.true))

pub returns-then-atoms-gt16384 : goal.returns-then-atoms-gt16384
returns-then-atoms-gt16384 c = unfold asked_by in rw (not-false c.args.fits (ap not c.if-not-fits.false), lt-leb _ _ c.if-atoms-gt16384.true)

pub returns-then-not-in_range : goal.returns-then-not-in_range
returns-then-not-in_range c = unfold asked_by in rw (not-false c.args.fits (ap not c.if-not-fits.false), le-leb _ _ c.if-atoms-gt16384.false, not-true c.args.in_range (ap not c.if-not-in_range.true))

pub returns-then-absent-rows : goal.returns-then-absent-rows
returns-then-absent-rows c = unfold asked_by in rw (not-false c.args.fits (ap not c.if-not-fits.false), le-leb _ _ c.if-atoms-gt16384.false, not-false c.args.in_range (ap not c.if-not-in_range.false), lt-ltb _ _ c.if-absent-rows.true)

pub returns : goal.returns
returns c = unfold asked_by in rw (not-false c.args.fits (ap not c.if-not-fits.false), le-leb _ _ c.if-atoms-gt16384.false, not-false c.args.in_range (ap not c.if-not-in_range.false), le-ltb _ _ c.if-absent-rows.false)
