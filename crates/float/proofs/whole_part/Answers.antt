-- `float::whole_part` meets its contract: each branch is a fact of `proofs/Whole.antt`. Assumes nothing.
use lib.Ieee.{of_bits}
use Rattle.float.proofs.Whole.{trunc_over, trunc_under}
use Rattle.float.proofs.whole_part.Goals as goal

pub returns-then-a-t : goal.returns-then-a-t
unfolding of_bits
returns-then-a-t c = trunc_over _ c.requires.0 c.requires.1 c.if-a-t.true

pub returns-else-a-t : goal.returns-else-a-t
unfolding of_bits
returns-else-a-t c = trunc_under _ c.requires.0 c.requires.1 c.if-a-t.false
