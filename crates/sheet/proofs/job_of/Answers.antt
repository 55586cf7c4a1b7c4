use Rattle.sheet.specs.Read.{job_for}
use mathlib.Core.Path.{refl}
use Rattle.sheet.proofs.job_of.Goals as goal

pub returns : goal.returns
unfolding job_for
returns c = refl
