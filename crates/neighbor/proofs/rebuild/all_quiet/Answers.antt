use Rattle.neighbor.proofs.Asking.{looking_turn, looking_end, all_from_first}
use Rattle.neighbor.proofs.rebuild.all_quiet.Goals as goal

pub loop-k-preserved : goal.loop-k-preserved
loop-k-preserved c = looking_turn _ _ _ c.loop-k.invariant c.loop-k-test.true c.is_quiet-ok.ensures

pub returns : goal.returns
returns c = all_from_first _ _ (looking_end _ _ _ c.loop-k.invariant c.loop-k-test.false)
