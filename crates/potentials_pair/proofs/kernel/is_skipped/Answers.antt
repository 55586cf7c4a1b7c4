use Rattle.potentials_pair.specs.Pull.{skips}
use mathlib.Core.Path.{refl}
use Rattle.potentials_pair.proofs.kernel.is_skipped.Goals as goal

pub returns : goal.returns
returns c = unfold skips in refl
