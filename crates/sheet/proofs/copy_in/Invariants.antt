use Prim.Native.Nat.{◌≤◌, ◌-◌}
use lib.ListN.{take}
use lib.Seq.{sets}
use mathlib.Core.Path.{◌≡◌}
use Rattle.sheet.proofs.copy_in.Given as goal

abbrev pub invariant-loop-i : goal.invariant-loop-i
invariant-loop-i l = (l.i ≤ l.n) × (l.to ≡ sets l.initial.to 0 (take l.i l.from))
