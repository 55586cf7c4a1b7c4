use Rattle.cell.specs.Vec.{position_at}
use Rattle.neighbor.proofs.Asking.{Searching}
use Rattle.neighbor_asked.specs.Strays.{strayed}
use Rattle.neighbor.proofs.rebuild.some_far_long.Given as goal

abbrev pub invariant-loop-i : goal.invariant-loop-i
invariant-loop-i l = Searching (λ k. strayed l.p l.limit (position_at l.xs k) (position_at l.refs k)) l.from l.to l.i
