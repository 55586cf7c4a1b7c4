use Rattle.evaluate.proofs.Settling.{part_of}
use Rattle.neighbor.proofs.Asking.{part_long}
use lib.ListN.{length}
use native.Mathlib.Omega.{arith}
use Rattle.evaluate.proofs.kernel.combine.Goals as goal

pub slice_bounds-all-end : goal.slice_bounds-all-end
slice_bounds-all-end c = part_long _ _ (omega (arith, c.shorter-n.ensures, c.scratch-room.ensures))

pub returns : goal.returns
returns c = rw (part_of (length c.args.forces.now) c.scratch-room.result c.shorter-n.ensures c.scratch-room.ensures) at c.all.ensures
