use Rattle.sheet.specs.ReadTwo.{species_in}
use lib.Seq.{sets}
use mathlib.Core.Path.{◌≡◌}
use Rattle.sheet.proofs.two.copy_species.Given as goal

abbrev pub invariant-loop-i : goal.invariant-loop-i
invariant-loop-i l = l.to ≡ sets l.initial.to 0 (species_in l.i l.from)
