use Rattle.cell.specs.Vec.{position_at}
use Rattle.neighbor.proofs.Asking.{Looking}
use Rattle.neighbor_asked.specs.Strays.{still}
use Rattle.neighbor.proofs.rebuild.all_still.Given as goal

abbrev pub invariant-loop-i : goal.invariant-loop-i
invariant-loop-i l = Looking (λ k. still l.p l.limit (position_at l.xs k) (position_at l.refs k)) l.from l.to l.ok l.i
