-- `float::half_up` meets its contract: each branch returns what the definition's `cond` picks. Assumes nothing.
use lib.Ieee.{of_bits}
use Rattle.float.proofs.Branches.{half_less, half_more}
use Rattle.float.proofs.half_up.Goals as goal

pub returns-then-d : goal.returns-then-d
unfolding of_bits
returns-then-d c = half_less _ _ c.if-d.true

pub returns-else-d : goal.returns-else-d
unfolding of_bits
returns-else-d c = half_more _ _ c.if-d.false
