use Prim.Native.Nat.{◌+◌}
use Rattle.sheet.specs.Reading.{lead_of}
use lib.ListN.{drop}
use mathlib.Core.Path.{◌≡◌}
use Rattle.sheet.proofs.judge.lead.Given as goal

abbrev pub invariant-loop-i : goal.invariant-loop-i
invariant-loop-i l = l.from + lead_of l.v (drop l.from l.seen) ≡ l.i + lead_of l.v (drop l.i l.seen)
