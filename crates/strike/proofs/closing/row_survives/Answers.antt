use borrow.Author.Tests.{not-false, not-true}
use Rattle.strike.proofs.Turns.{row_start, row_passes, row_fails, row_past}
use Rattle.strike.specs.Closed.{survives}
use mathlib.Core.Path.{sym, ◌∙◌, ap}
use native.Mathlib.Omega.{arith}
use Rattle.std.proofs.Common.{not}
use Rattle.strike.proofs.closing.row_survives.Goals as goal

pub overflow_mul-from : goal.overflow_mul-from
overflow_mul-from c = omega (arith, c.requires)

pub loop-c-init : goal.loop-c-init
loop-c-init c = (omega arith, row_start c.args.marks.now c.args.width c.args.names.now c.args.k)

pub overflow_add-from : goal.overflow_add-from
overflow_add-from c = omega (arith, c.requires)

pub offset_bounds-names-from : goal.offset_bounds-names-from
offset_bounds-names-from c = omega (arith, c.requires)

pub bounds-names-from : goal.bounds-names-from
bounds-names-from c = omega (arith, c.requires)

pub returns-then-not-survives : goal.returns-then-not-survives
returns-then-not-survives c = sym (c.loop-c.invariant.1 ∙ row_fails c.args.marks.now c.args.width c.args.names.now c.args.k c.loop-c.c c.loop-c-test.true (sym (c.survives.ensures ∙ ap (survives c.args.marks.now) c.wide.ensures) ∙ not-true c.survives.result (ap not c.if-not-survives.true)))

pub loop-c-preserved : goal.loop-c-preserved
loop-c-preserved c = (omega arith, c.loop-c.invariant.1 ∙ row_passes c.args.marks.now c.args.width c.args.names.now c.args.k c.loop-c.c c.loop-c-test.true (sym (c.survives.ensures ∙ ap (survives c.args.marks.now) c.wide.ensures) ∙ not-false c.survives.result (ap not c.if-not-survives.false)))

pub returns : goal.returns
returns c = sym (c.loop-c.invariant.1 ∙ row_past c.args.marks.now c.args.width c.args.names.now c.args.k c.loop-c.c c.loop-c-test.false)
