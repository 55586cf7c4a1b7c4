use Prim.Native.Nat.{◌-◌}
use Rattle.potentials_calls.specs.AllPairs.{PairsFilled}
use lib.ListN.{length}
use mathlib.Core.Path.{◌≡◌}
use Rattle.potentials_calls.proofs.every.fill.Given as goal

abbrev pub invariant-loop-c : goal.invariant-loop-c
invariant-loop-c l = (length l.table ≡ length l.initial.table) × PairsFilled l.n l.table l.c l.i l.j l.at.i l.at.j

abbrev pub decreases-loop-c : goal.decreases-loop-c
decreases-loop-c l = 1024 - l.c
