use Rattle.candidates.proofs.Turns.{count_step, count_end}
use Rattle.candidates.specs.Checks.{rows_below}
use Rattle.candidates.proofs.kernel.rows_below.Goals as goal

pub loop-k-preserved : goal.loop-k-preserved
loop-k-preserved c = count_step c.loop-k.invariant c.loop-k-test.true c.is_there.ensures c.one-count.ensures.value c.one-count.ensures.upper_bound

pub returns : goal.returns
unfolding rows_below
returns c = count_end c.loop-k.invariant c.loop-k-test.false
