use Rattle.candidates.proofs.Turns.{Counting}
use Rattle.candidates.specs.Checks.{there}
use Rattle.candidates.proofs.kernel.rows_below.Given as goal

abbrev pub invariant-loop-k : goal.invariant-loop-k
invariant-loop-k l = Counting (there l.n) l.table l.count l.k
