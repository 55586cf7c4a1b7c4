use Rattle.std.proofs.Common.{◌≡◌, ◌≤◌, length}
use Rattle.float.specs.Arith.{at}
use Rattle.lists.specs.Loops.{part_at}
use Rattle.neighbor.proofs.rebuild.refer.Given as goal

abbrev pub invariant-loop-k : goal.invariant-loop-k
invariant-loop-k l = (l.k ≤ length l.xs) × (length l.refs ≡ length l.initial.refs) × (l.refs ≡ part_at (λ j _. at l.xs j) l.k l.initial.refs)
