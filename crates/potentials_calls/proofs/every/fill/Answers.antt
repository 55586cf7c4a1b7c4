use Rattle.potentials_calls.proofs.AllPairs.{both_below, filled_first, filled_turn}
use mathlib.Core.Path.{refl, ◌∙◌}
use native.Mathlib.Omega.{arith}
use Rattle.potentials_calls.proofs.every.fill.Goals as goal

pub put-at-requires : goal.put-at-requires
put-at-requires c = (c.requires.0, c.requires.1, c.requires.2, omega arith, c.requires.3)

pub loop-c-init : goal.loop-c-init
loop-c-init c = (refl, filled_first c.args.n c.args.table.now c.requires.3 c.put-at.ensures)

pub put-at-requires-in-loop-c : goal.put-at-requires-in-loop-c
put-at-requires-in-loop-c c = let w = both_below c.loop-c.c 1024 c.loop-c.at.j c.args.n c.loop-c-test.true in (c.loop-c.invariant.1.spot.rises, w.1, c.requires.2, w.0, c.loop-c.invariant.0 ∙ c.put-at.auto.table ∙ c.requires.3)

pub overflow_add-c : goal.overflow_add-c
overflow_add-c c = let w = both_below c.loop-c.c 1024 c.loop-c.at.j c.args.n c.loop-c-test.true in omega (arith, w.0)

pub loop-c-smaller : goal.loop-c-smaller
loop-c-smaller c = let w = both_below c.loop-c.c 1024 c.loop-c.at.j c.args.n c.loop-c-test.true in omega (arith, w.0)

pub loop-c-preserved : goal.loop-c-preserved
loop-c-preserved c = let w = both_below c.loop-c.c 1024 c.loop-c.at.j c.args.n c.loop-c-test.true in (c.put-at-in-loop-c.auto.table ∙ c.loop-c.invariant.0, filled_turn c.args.n c.loop-c.table (c.loop-c.invariant.0 ∙ c.put-at.auto.table ∙ c.requires.3) w.0 c.loop-c.invariant.1 c.put-at-in-loop-c.ensures)

pub shape_of-table : goal.shape_of-table
shape_of-table c = c.loop-c.invariant.0 ∙ c.put-at.auto.table

pub returns : goal.returns
returns c = c.loop-c.invariant.1
