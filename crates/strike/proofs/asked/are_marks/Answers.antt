use Rattle.lists.proofs.Walks.{every_passes, every_fails, every_past}
use Rattle.strike.specs.Calls.{is_mark}
use borrow.Author.Rules.{rules}
use borrow.Author.Tests.{le-ltb, lt-ltb}
use lib.ListN.{get_or}
use mathlib.Core.Path.{refl, sym, ◌∙◌}
use native.Mathlib.Omega.{arith}
use Rattle.strike.proofs.asked.are_marks.Goals as goal

pub loop-mark-init : goal.loop-mark-init
loop-mark-init c = (search rules, refl)

pub returns-then-mark-gt1 : goal.returns-then-mark-gt1
returns-then-mark-gt1 c = sym (c.loop-mark.invariant.1 ∙ every_fails 0 c.args.marks.now c.loop-mark.mark-index is_mark c.loop-mark-test.true (le-ltb (get_or c.args.marks.now c.loop-mark.mark-index 0) 2 (omega (arith, c.if-mark-gt1.true))))

pub loop-mark-preserved : goal.loop-mark-preserved
loop-mark-preserved c = (search rules, c.loop-mark.invariant.1 ∙ every_passes 0 c.args.marks.now c.loop-mark.mark-index is_mark c.loop-mark-test.true (lt-ltb (get_or c.args.marks.now c.loop-mark.mark-index 0) 2 (omega (arith, c.if-mark-gt1.false))))

pub returns : goal.returns
returns c = sym (c.loop-mark.invariant.1 ∙ every_past 0 c.args.marks.now c.loop-mark.mark-index is_mark c.loop-mark-test.false)
