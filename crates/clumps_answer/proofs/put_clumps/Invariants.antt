use Prim.Native.Nat.{◌*◌, ◌≤◌}
use Rattle.clumps_answer.proofs.Lines.{lines_to}
use lib.ListN.{length}
use lib.Seq.{sets}
use mathlib.Core.Path.{◌≡◌}
use Rattle.clumps_answer.proofs.put_clumps.Given as goal

abbrev pub invariant-loop-i : goal.invariant-loop-i
invariant-loop-i l = (l.at ≤ 11 * l.i) × (l.at ≡ length (lines_to l.labels l.i)) × (l.out ≡ sets l.initial.out 0 (lines_to l.labels l.i))
