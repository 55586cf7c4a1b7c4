use Rattle.neighbor.specs.Update.{unfit}
use Rattle.std.proofs.Common.{refl}
use Rattle.neighbor.proofs.kernel.is_unfit.Goals as goal

pub returns : goal.returns
unfolding unfit
returns c = refl
