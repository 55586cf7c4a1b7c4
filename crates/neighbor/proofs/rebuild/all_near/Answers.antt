use Rattle.neighbor.proofs.Asking.{looking_turn, looking_end}
use Rattle.neighbor.proofs.rebuild.all_near.Goals as goal

pub loop-k-preserved : goal.loop-k-preserved
loop-k-preserved c = looking_turn _ _ _ c.loop-k.invariant c.loop-k-test.true c.is_within-ok.ensures

pub returns : goal.returns
returns c = looking_end _ _ _ c.loop-k.invariant c.loop-k-test.false
