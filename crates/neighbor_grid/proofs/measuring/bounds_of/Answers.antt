use Rattle.neighbor_grid.proofs.Loops.{bounded_begin, bounded_turn, bounded_low, bounded_high}
use lib.Ieee.{neg}
use Rattle.neighbor_grid.proofs.measuring.bounds_of.Goals as goal

pub loop-i-init : goal.loop-i-init
unfolding neg
loop-i-init c = bounded_begin _ (rw c.infinity.ensures at c.alike_of-lo.ensures) (rw c.infinity-2.ensures at c.alike_of-hi.ensures)

pub loop-i-preserved : goal.loop-i-preserved
loop-i-preserved c = bounded_turn _ c.loop-i.invariant c.loop-i-test.true c.spot_at-p.ensures c.lower-lo.ensures c.upper-hi.ensures

pub returns : goal.returns
returns c = λ k. record { lo = bounded_low _ c.loop-i.invariant c.loop-i-test.false k; hi = bounded_high _ c.loop-i.invariant c.loop-i-test.false k }
