use Rattle.std.proofs.Common.{sym, ◌∙◌}
use Rattle.neighbor.proofs.Asking.{searching_turn, searching_finds, searching_end}
use Rattle.neighbor.proofs.rebuild.some_far_long.Goals as goal

pub returns-then-is_far : goal.returns-then-is_far
returns-then-is_far c = searching_finds _ _ _ c.loop-i.invariant c.loop-i-test.true (rw (← c.spot_at.ensures, ← c.spot_at-in-loop-i.ensures) (sym c.is_far.ensures ∙ c.if-is_far.true))

pub loop-i-preserved : goal.loop-i-preserved
loop-i-preserved c = searching_turn _ _ _ c.loop-i.invariant c.loop-i-test.true (rw (← c.spot_at.ensures, ← c.spot_at-in-loop-i.ensures) (sym c.is_far.ensures ∙ c.if-is_far.false))

pub returns : goal.returns
returns c = searching_end _ _ _ c.loop-i.invariant c.loop-i-test.false
