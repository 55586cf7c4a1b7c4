use Rattle.virial.specs.Virial.{row_with_atom}
use mathlib.Core.Path.{refl}
use Rattle.virial.proofs.tensors.row_with_atom.Goals as goal

pub returns : goal.returns
unfolding row_with_atom
returns c = refl
