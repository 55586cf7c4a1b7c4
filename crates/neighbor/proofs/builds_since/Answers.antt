use Rattle.neighbor.specs.State.{since_of}
use Rattle.std.proofs.Common.{arith}
use Rattle.neighbor.proofs.builds_since.Goals as goal

pub returns : goal.returns
unfolding since_of
returns c = omega (arith, c.wrapping_sub_u32.ensures)
