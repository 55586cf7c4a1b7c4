-- The nine floats of a sum are the virial, row by row. Assumes nothing.
use mathlib.Core.Path.{◌≡◌, refl}
use mathlib.Core.List.{List, [], ◌∷◌}
use lib.Ieee.{Float}
use Rattle.cell.specs.declared.Vec3.{Vec3}
use Rattle.virial.specs.declared.Sum.{Sum}
use Rattle.virial.specs.Virial.{zero_sum, zero_tensor, row_with_pair, with_pair, sum_with_pair}

-- the rows of a sum
abbrev pub virial_of : Sum → List (List Float)
virial_of s = (s.xx ∷ s.xy ∷ s.xz ∷ []) ∷ (s.yx ∷ s.yy ∷ s.yz ∷ []) ∷ (s.zx ∷ s.zy ∷ s.zz ∷ []) ∷ []

pub zero_virial : virial_of zero_sum ≡ zero_tensor
unfolding zero_sum zero_tensor
zero_virial = refl

-- a pair's virial added to a sum is `virial_from_pair` on its rows
pub pair_virial : (s : Sum) (d f : Vec3) → virial_of (sum_with_pair s d f) ≡ with_pair (virial_of s) d f
unfolding sum_with_pair with_pair row_with_pair
pair_virial s d f = refl
