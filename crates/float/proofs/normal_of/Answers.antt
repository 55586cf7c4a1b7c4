use Rattle.float.proofs.Branches.{yes}
use Rattle.float.proofs.Finite.{positive_no_nan, normal_even}
use Rattle.std.proofs.Common.{refl}
use Rattle.float.proofs.normal_of.Goals as goal

pub float_to_bits-bits : goal.float_to_bits-bits
float_to_bits-bits c = positive_no_nan _ c.requires.0

pub returns : goal.returns
returns c = normal_even _ c.requires.0 (yes c.well_formed.0.1) c.requires.1 refl refl
