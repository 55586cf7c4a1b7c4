use Rattle.neighbor.proofs.Asking.{looking_turn, looking_end}
use Rattle.neighbor.proofs.rebuild.all_still.Goals as goal

pub loop-i-preserved : goal.loop-i-preserved
loop-i-preserved c = looking_turn _ _ _ c.loop-i.invariant c.loop-i-test.true (rw (← c.spot_at.ensures, ← c.spot_at-in-loop-i.ensures) c.is_still-ok.ensures)

pub returns : goal.returns
returns c = looking_end _ _ _ c.loop-i.invariant c.loop-i-test.false
