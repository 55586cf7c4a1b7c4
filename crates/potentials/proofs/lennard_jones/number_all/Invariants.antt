use Prim.Native.Nat.{◌≤◌}
use Rattle.potentials_pair.specs.Species.{tables_of}
use Rattle.potentials.specs.Blocks.{Recalled}
use Rattle.potentials.proofs.lennard_jones.number_all.Given as goal

abbrev pub invariant-loop-m : goal.invariant-loop-m
invariant-loop-m l = (l.m ≤ l.n) × Recalled l.lj (tables_of l.tables) l.species l.table l.from l.initial.atoms l.atoms l.initial.room l.room l.m
