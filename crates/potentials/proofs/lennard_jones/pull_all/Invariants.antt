use Prim.Native.Nat.{◌≤◌}
use Rattle.potentials.specs.Blocks.{lj_energy_on, lj_slope_on, Pulled}
use lib.ListN.{length}
use mathlib.Core.Path.{◌≡◌}
use Rattle.potentials.proofs.lennard_jones.pull_all.Given as goal

abbrev pub invariant-loop-m : goal.invariant-loop-m
invariant-loop-m l = (l.m ≤ l.n) × (length l.pulls ≡ length l.initial.pulls) × Pulled (lj_energy_on l.shift l.room) (lj_slope_on l.room) l.pulls l.m
