use Prim.Native.Nat.{◌-◌, ◌%◌}
use Rattle.sheet_either.proofs.Either.{left_two}
use Rattle.sheet_either.specs.Either.{is_two}
use Rattle.sheet_lines_two.specs.Twos.{twos_of}
use lib.ListN.{length}
use mathlib.Core.Path.{◌≡◌}
use Rattle.sheet_either.proofs.is_two.Given as goal

abbrev pub invariant-loop-at : goal.invariant-loop-at
invariant-loop-at l = (l.at % 11 ≡ 0) × (left_two l.s l.at ≡ is_two (twos_of l.s))

abbrev pub decreases-loop-at : goal.decreases-loop-at
decreases-loop-at l = length l.s - l.at
