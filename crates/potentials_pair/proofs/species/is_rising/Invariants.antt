use Rattle.potentials_pair.proofs.Lookup.{left}
use Rattle.potentials_pair.specs.Species.{rising}
use mathlib.Core.Path.{◌≡◌}
use Rattle.potentials_pair.proofs.species.is_rising.Given as goal

abbrev pub invariant-loop-k : goal.invariant-loop-k
invariant-loop-k l = rising l.ids ≡ left l.ids l.k
