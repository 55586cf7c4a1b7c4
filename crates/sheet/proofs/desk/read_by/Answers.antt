use Rattle.answer.proofs.Passed.{passed_up}
use Rattle.sheet.proofs.Turning.{half_start, half_wide, half_next, half_stop, half_end}
use lib.ListN.{length}
use native.Mathlib.Omega.{arith}
use Rattle.sheet.proofs.desk.read_by.Goals as goal

pub loop-at-init : goal.loop-at-init
loop-at-init g c = (c.requires.callable, half_start _ (length c.args.s.now) c.args.coords.now c.args.seen.now c.args.table.now c.blank-desk.result c.told-table c.blank-desk.ensures)

pub overflow_add-n : goal.overflow_add-n
overflow_add-n g c = omega (arith, c.loop-at.invariant.1.within, c.loop-at-test.true, c.well_formed)

pub keep-requires : goal.keep-requires
keep-requires g c = ((c.requires.told c.loop-at.at _ _ c.loop-at-test.true c.line_from-line.ensures).below, c.loop-at.invariant.1.fit)

pub overflow_add-at : goal.overflow_add-at
overflow_add-at g c = omega (arith, (c.requires.told c.loop-at.at _ _ c.loop-at-test.true c.line_from-line.ensures).most, c.loop-at-test.true, c.well_formed)

pub loop-at-smaller : goal.loop-at-smaller
loop-at-smaller g c = omega (arith, (half_wide _ _ c.loop-at.invariant.1 _ _ c.loop-at-test.true c.line_from-line.ensures c.keep.result c.keep.new.coords c.keep.new.seen c.keep.new.table c.keep.ensures.table_after _ c.in_ok-desk.was (c.requires.told c.loop-at.at _ _ c.loop-at-test.true c.line_from-line.ensures)).0, c.loop-at-test.true)

pub loop-at-preserved : goal.loop-at-preserved
loop-at-preserved g c = (c.loop-at.invariant.0, half_next _ _ c.loop-at.invariant.1 _ _ c.loop-at-test.true c.line_from-line.ensures c.keep.result c.keep.new.coords c.keep.new.seen c.keep.new.table c.keep.ensures.table_after _ c.in_ok-desk.was (c.requires.told c.loop-at.at _ _ c.loop-at-test.true c.line_from-line.ensures) c.keep.ensures.fit_kept)

pub returns-in_err-desk : goal.returns-in_err-desk
returns-in_err-desk g c =
    let r = passed_up c.from_residual.result c.in_err-desk.field-0.0 c.from_residual.ensures.1 in
    record { table_after = λ lines by. rw r (half_stop _ _ c.loop-at.invariant.1 _ _ c.loop-at-test.true c.line_from-line.ensures c.keep.result c.keep.new.coords c.keep.new.seen c.keep.new.table c.keep.ensures.table_after _ c.in_err-desk.was lines by); fit_kept = rw r tt }

pub returns : goal.returns
returns g c = record { table_after = half_end _ _ c.loop-at.invariant.1 c.loop-at-test.false; fit_kept = c.loop-at.invariant.1.fit }
