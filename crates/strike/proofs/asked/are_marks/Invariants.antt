use Prim.Native.Nat.{◌-◌, ◌≤◌}
use Rattle.lists.specs.Lists.{every}
use Rattle.strike.specs.Calls.{is_mark}
use lib.ListN.{length, drop}
use mathlib.Core.Path.{◌≡◌}
use Rattle.strike.proofs.asked.are_marks.Given as goal

abbrev pub invariant-loop-mark : goal.invariant-loop-mark
invariant-loop-mark l = (l.mark-index ≤ length l.marks) × (every is_mark l.marks ≡ every is_mark (drop l.mark-index l.marks))
