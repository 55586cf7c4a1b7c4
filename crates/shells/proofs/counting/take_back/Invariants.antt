use Rattle.lists.specs.Lists.{rows}
use Rattle.shells.proofs.Totals.{TakenUpTo}
use Rattle.shells.specs.Shells.{shell_at}
use lib.ListN.{length}
use Rattle.shells.proofs.counting.take_back.Given as goal

abbrev pub invariant-loop-k : goal.invariant-loop-k
invariant-loop-k l = TakenUpTo (shell_at l.f l.xs l.width (length l.initial.totals)) (rows l.pairs) l.initial.totals l.k l.totals
