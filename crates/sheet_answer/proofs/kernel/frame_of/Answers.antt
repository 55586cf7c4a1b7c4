use Rattle.sheet_answer.specs.Solve.{frame_for}
use mathlib.Core.Path.{refl}
use Rattle.sheet_answer.proofs.kernel.frame_of.Goals as goal

pub returns : goal.returns
unfolding frame_for
returns c = refl
