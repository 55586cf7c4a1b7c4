use Prim.Native.Nat.{◌+◌}
use Rattle.sheet.specs.Reading.{lead_of}
use lib.ListN.{drop}
use mathlib.Core.Path.{◌≡◌}
use Rattle.sheet_moved.proofs.first_typed.Given as goal

abbrev pub invariant-loop-i : goal.invariant-loop-i
invariant-loop-i l = lead_of 0 l.species ≡ l.i + lead_of 0 (drop l.i l.species)
