use Rattle.lists.specs.Lists.{rows}
use Rattle.sheet_printed.specs.Printed.{pair_lines}
use lib.ListN.{take}
use lib.Seq.{sets}
use mathlib.Core.Path.{◌≡◌}
use Rattle.sheet_printed.proofs.put_pairs.Given as goal

abbrev pub invariant-loop-i : goal.invariant-loop-i
invariant-loop-i l = l.out ≡ sets l.initial.out 21 (pair_lines (take l.i (rows l.pairs)))
