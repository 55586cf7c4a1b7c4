use Rattle.float.proofs.Branches.{yes, min_picked}
use lib.Ieee.{of_bits}
use Rattle.float.proofs.min.Goals as goal

pub returns : goal.returns
unfolding of_bits
returns c = rw (c.pick.ensures, c.pick-number.ensures, c.pick-smaller.ensures) (min_picked _ _ (yes c.well_formed.0.1) (yes c.well_formed.1.0.1))
