use Rattle.neighbor_grid.proofs.Loops.{filling_begin, filling_turn, filling_end}
use native.Mathlib.Omega.{arith}
use Rattle.neighbor_grid.proofs.laying.bin_atoms.Goals as goal

pub loop-i-init : goal.loop-i-init
loop-i-init c = filling_begin _ _ _ _

pub loop-i-preserved : goal.loop-i-preserved
loop-i-preserved c = filling_turn _ _ _ _ c.loop-i.invariant (omega arith) (rw c.spot_at.ensures at c.place_of.ensures)

pub returns : goal.returns
returns c = filling_end _ _ _ _ c.loop-i.invariant (omega arith)
