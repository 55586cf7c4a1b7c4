use Rattle.float.proofs.Patterns.{not_nan}
use Rattle.float.specs.Estimate.{newton_of}
use Rattle.std.proofs.Common.{refl, arith}
use Rattle.float.proofs.quick.estimate.Goals as goal

pub float_to_bits-a : goal.float_to_bits-a
float_to_bits-a c = c.requires

pub float_from_bits-a : goal.float_from_bits-a
float_from_bits-a c = not_nan _ (omega arith)

pub returns : goal.returns
unfolding newton_of
returns c = refl
