use Rattle.evaluate.specs.Asked.{in_turn}
use Rattle.neighbor_asked.specs.Asked.{first_refusal}
use Rattle.std.proofs.lemmas.Result.{err_from_is_err_and}
use borrow.Author.Tests.{not-true, not-false}
use Rattle.std.proofs.Common.{ap, not}
use Rattle.evaluate.proofs.asked.in_turn.Goals as goal

pub returns-then-not-fits : goal.returns-then-not-fits
returns-then-not-fits c = unfold in_turn in unfold first_refusal in rw (not-true c.args.fits (ap not c.if-not-fits.true))

pub returns-in_err-first : goal.returns-in_err-first
returns-in_err-first c = let p = err_from_is_err_and c.from_residual.result c.from_residual.ensures.1 in rw (p.1, p.2) (unfold in_turn in unfold first_refusal in rw (not-false c.args.fits (ap not c.if-not-fits.false), c.in_err-first.was))

pub returns-then-not-ok : goal.returns-then-not-ok
returns-then-not-ok c = unfold in_turn in unfold first_refusal in rw (not-false c.args.fits (ap not c.if-not-fits.false), c.in_ok-first.was, not-true c.args.ok (ap not c.if-not-ok.true))

pub returns-in_err-kept : goal.returns-in_err-kept
returns-in_err-kept c = let p = err_from_is_err_and c.from_residual-in_err-kept.result c.from_residual-in_err-kept.ensures.1 in rw (p.1, p.2) (unfold in_turn in unfold first_refusal in rw (not-false c.args.fits (ap not c.if-not-fits.false), c.in_ok-first.was, not-false c.args.ok (ap not c.if-not-ok.false), c.in_err-kept.was))

pub returns : goal.returns
returns c = unfold in_turn in unfold first_refusal in rw (not-false c.args.fits (ap not c.if-not-fits.false), c.in_ok-first.was, not-false c.args.ok (ap not c.if-not-ok.false), c.in_ok-kept.was)
