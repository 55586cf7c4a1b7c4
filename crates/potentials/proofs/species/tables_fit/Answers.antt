use Rattle.potentials.specs.Calls.{tables_fit}
use mathlib.Core.Path.{refl}
use Rattle.potentials.proofs.species.tables_fit.Goals as goal

pub returns : goal.returns
returns c = unfold tables_fit in refl
