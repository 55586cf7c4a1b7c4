use Rattle.candidates.proofs.Turns.{Counting}
use Rattle.candidates.specs.Checks.{beside_in, cell_from}
use lib.ListN.{length}
use Rattle.candidates.proofs.kernel.rows_touching.Given as goal

abbrev pub invariant-loop-k : goal.invariant-loop-k
invariant-loop-k l = Counting (beside_in l.g (length l.places) (cell_from l.g l.places)) l.table l.count l.k
