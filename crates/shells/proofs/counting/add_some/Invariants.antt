use Rattle.lists.specs.Lists.{rows}
use Rattle.shells.proofs.Totals.{AddedUpTo}
use Rattle.shells.specs.Shells.{shell_at}
use lib.ListN.{length}
use Rattle.shells.proofs.counting.add_some.Given as goal

abbrev pub invariant-loop-k : goal.invariant-loop-k
invariant-loop-k l = AddedUpTo (shell_at l.f l.xs l.width (length l.initial.totals)) (rows l.pairs) l.initial.totals l.k l.totals
