use Rattle.cell.proofs.Whole.{counted_is}
use Rattle.cell.specs.Boxes.{counted_of}
use Rattle.float.proofs.Branches.{both_true}
use mathlib.Core.Bool.{◌&&◌}
use mathlib.Core.Path.{sym, ◌∙◌}
use Rattle.cell.proofs.counting.counted.Goals as goal

pub whole-requires : goal.whole-requires
whole-requires c = sym c.fits.ensures ∙ (both_true c.fits.result c.fits-2.result (both_true (c.fits.result && c.fits-2.result) c.fits-3.result c.if-fits.true).0).0

pub whole-requires-then-fits : goal.whole-requires-then-fits
whole-requires-then-fits c = sym c.fits-2.ensures ∙ (both_true c.fits.result c.fits-2.result (both_true (c.fits.result && c.fits-2.result) c.fits-3.result c.if-fits.true).0).1

pub whole-requires-then-fits-2 : goal.whole-requires-then-fits-2
whole-requires-then-fits-2 c = sym c.fits-3.ensures ∙ (both_true (c.fits.result && c.fits-2.result) c.fits-3.result c.if-fits.true).1

pub returns-then-fits : goal.returns-then-fits
returns-then-fits c = counted_is _ _ _ _ _ _ c.whole.ensures c.whole-then-fits.ensures c.whole-then-fits-2.ensures (simp (← c.fits.ensures, ← c.fits-2.ensures, ← c.fits-3.ensures) c.if-fits.true)

pub returns : goal.returns
unfolding counted_of
returns c = simp (← c.fits.ensures, ← c.fits-2.ensures, ← c.fits-3.ensures, c.if-fits.false)
