-- `float::root` meets its contract: the cases but a finite number above zero are in `proofs/Finite.antt`. Assumes nothing.
use Rattle.float.proofs.Branches.{yes}
use Rattle.float.proofs.Finite.{positive_of, root_inf, root_zero, root_else}
use lib.Ieee.{of_bits, div}
use Rattle.float.proofs.root.Goals as goal

pub root_finite-requires : goal.root_finite-requires
unfolding of_bits div
root_finite-requires c = positive_of _ c.if-x.true c.if-x-2.true

pub returns-else-x-2 : goal.returns-else-x-2
unfolding of_bits div
returns-else-x-2 c = root_inf _ c.if-x.true c.if-x-2.false

pub returns-then-x-3 : goal.returns-then-x-3
unfolding of_bits
returns-then-x-3 c = root_zero _ (yes c.well_formed.0.1) c.if-x-3.true

pub returns-else-x-3 : goal.returns-else-x-3
unfolding of_bits div
returns-else-x-3 c = root_else _ (yes c.well_formed.0.1) c.if-x.false c.if-x-3.false
