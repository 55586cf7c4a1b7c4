use Rattle.clumps_answer.proofs.Lines.{member_turn, one_at_most}
use Rattle.clumps_answer.specs.Clumps.{members_of}
use Rattle.lists.proofs.Walks.{many_past}
use lib.Dec.{eqb}
use mathlib.Core.Bool.{cond}
use mathlib.Core.Path.{ap, ◌∙◌}
use native.Mathlib.Omega.{arith}
use Rattle.clumps_answer.proofs.members.Goals as goal

pub loop-label-init : goal.loop-label-init
unfolding members_of
loop-label-init c = (omega arith, omega arith)

pub loop-label-preserved : goal.loop-label-preserved
loop-label-preserved c = (omega (arith, one_at_most (eqb c.wide.result c.args.low) c.one-n.result c.one-n.ensures), member_turn c.args.labels.now c.args.low c.loop-label.label-index c.loop-label.n c.one-n.result c.loop-label-test.true (c.one-n.ensures ∙ ap (λ k. cond (eqb k c.args.low) 1 0) c.wide.ensures) c.loop-label.invariant.1)

pub returns : goal.returns
returns c = omega (arith, c.loop-label.invariant.1, many_past 0 c.args.labels.now c.loop-label.label-index (λ l. eqb l c.args.low) c.loop-label-test.false)
