use Rattle.frame.proofs.Ranges.{passing_turn, passing_fails, passing_end}
use Rattle.skin.proofs.Skin.{little_fails, little_passes, ranged_frame, ranged_spot, all_three}
use native.Mathlib.Omega.{arith}
use Rattle.skin.proofs.all_moved_little.Goals as goal

pub squared_move-requires : goal.squared_move-requires
squared_move-requires c = all_three _ _ _ (ranged_frame _ _ c.requires.0) (rw c.spot_at.ensures (ranged_spot _ _ c.requires.0 _ c.loop-i-test.true)) (rw c.spot_at-in-loop-i.ensures (ranged_spot _ _ c.requires.1 _ (omega (arith, c.loop-i-test.true, c.requires.2))))

pub returns-then-most-squared_move : goal.returns-then-most-squared_move
returns-then-most-squared_move c = passing_fails _ _ c.loop-i.invariant c.loop-i-test.true (little_fails _ _ _ _ (rw (← c.spot_at.ensures, ← c.spot_at-in-loop-i.ensures, ← c.squared_move.ensures, ← c.most_of-most.ensures) c.if-most-squared_move.true))

pub loop-i-preserved : goal.loop-i-preserved
loop-i-preserved c = passing_turn _ _ c.loop-i.invariant c.loop-i-test.true (little_passes _ _ _ _ (rw (← c.spot_at.ensures, ← c.spot_at-in-loop-i.ensures, ← c.squared_move.ensures, ← c.most_of-most.ensures) c.if-most-squared_move.false))

pub returns : goal.returns
returns c = passing_end _ _ c.loop-i.invariant c.loop-i-test.false
