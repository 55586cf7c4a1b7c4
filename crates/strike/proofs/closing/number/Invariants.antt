use Prim.Native.Nat.{◌-◌, ◌≤◌}
use Rattle.strike.specs.Steps.{CountedTo}
use lib.ListN.{length}
use mathlib.Core.Path.{◌≡◌}
use Rattle.strike.proofs.closing.number.Given as goal

abbrev pub invariant-loop-k : goal.invariant-loop-k
invariant-loop-k l = (l.k ≤ length l.marks) × (length l.fresh ≡ length l.initial.fresh) × CountedTo l.marks l.k l.to l.fresh
