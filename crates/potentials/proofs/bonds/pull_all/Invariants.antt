use Prim.Native.Nat.{◌≤◌}
use Rattle.potentials.specs.Blocks.{Bonded}
use lib.ListN.{length}
use mathlib.Core.Path.{◌≡◌}
use Rattle.potentials.proofs.bonds.pull_all.Given as goal

abbrev pub invariant-loop-m : goal.invariant-loop-m
invariant-loop-m l = (l.m ≤ l.n) × (length l.roots ≡ length l.initial.roots) × (length l.pulls ≡ length l.initial.pulls) × Bonded l.apart l.two l.roots l.pulls l.m
