-- `float::abs` meets its contract: each branch is a fact of `proofs/Easy.antt`. Assumes nothing.
use lib.Ieee.{of_bits}
use Rattle.float.proofs.Branches.{yes, abs_low, abs_high}
use Rattle.float.proofs.abs.Goals as goal

pub returns-then-x : goal.returns-then-x
unfolding of_bits
returns-then-x c = abs_low _ (yes c.well_formed.0.1) c.if-x.true

pub returns-else-x : goal.returns-else-x
unfolding of_bits
returns-else-x c = abs_high _ c.if-x.false
