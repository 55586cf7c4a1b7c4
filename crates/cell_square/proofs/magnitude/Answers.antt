use lib.Ieee.{of_bits}
use mathlib.Core.Bool.{true, false}
use Rattle.float.proofs.Branches.{yes}
use Rattle.cell_square.proofs.Law.{larger_is}
use Rattle.cell_square.proofs.magnitude.Goals as goal

pub returns-then-turned-x : goal.returns-then-turned-x
unfolding of_bits
returns-then-turned-x c = larger_is _ (yes c.well_formed.0.1) true c.if-turned-x.true

pub returns-else-turned-x : goal.returns-else-turned-x
unfolding of_bits
returns-else-turned-x c = larger_is _ (yes c.well_formed.0.1) false c.if-turned-x.false
