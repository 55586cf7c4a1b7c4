use Rattle.std.proofs.Common.{refl}
use lib.Ieee.{div, of_bits}
use Rattle.float.proofs.infinity.Goals as goal

pub returns : goal.returns
unfolding div of_bits
returns c = refl
