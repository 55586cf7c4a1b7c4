-- `float::to_bits` meets its contract. Assumes nothing.
use Rattle.std.proofs.Common.{ap}
use lib.Ieee.{to_bits, binary64}
use Rattle.float.proofs.Branches.{nan_told, number_told}
use Rattle.float.proofs.to_bits.Goals as goal

pub float_to_bits-result : goal.float_to_bits-result
float_to_bits-result c = number_told _ c.if-x.false

pub returns-then-x : goal.returns-then-x
unfolding to_bits
returns-then-x c = ap (to_bits binary64) (nan_told _ c.if-x.true)
