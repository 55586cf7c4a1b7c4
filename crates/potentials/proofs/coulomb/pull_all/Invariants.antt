use Prim.Native.Nat.{◌≤◌}
use Rattle.potentials.specs.Blocks.{coulomb_energy, coulomb_slope, Pulled}
use lib.ListN.{length}
use mathlib.Core.Path.{◌≡◌}
use Rattle.potentials.proofs.coulomb.pull_all.Given as goal

abbrev pub invariant-loop-m : goal.invariant-loop-m
invariant-loop-m l = (l.m ≤ l.n) × (length l.pulls ≡ length l.initial.pulls) × Pulled (coulomb_energy l.two) (coulomb_slope l.two) l.pulls l.m
