use Rattle.lists.proofs.Rows.{length_rows}
use Rattle.shells.proofs.Totals.{down_start, down_turn}
use native.Mathlib.Omega.{arith}
use Rattle.shells.proofs.counting.take_back.Goals as goal

pub loop-k-init : goal.loop-k-init
loop-k-init c = down_start _ _ _

pub loop-k-preserved : goal.loop-k-preserved
loop-k-preserved c = down_turn _ _ _ c.loop-k.invariant (rw (length_rows c.args.pairs.now) (omega (arith, c.requires.1, c.loop-k-test.true))) c.shell_at-s.ensures.0 c.shell_at-s.ensures.1 c.one_less-less.ensures
