use Rattle.answer.proofs.Passed.{passed_up}
use Rattle.sheet.proofs.Settling.{sound_few, settled, unsettled}
use Rattle.sheet.specs.Desk.{header_for}
use native.Mathlib.Omega.{arith}
use Rattle.sheet.proofs.settle.Goals as goal

pub copy_in-requires : goal.copy_in-requires
copy_in-requires c = let f = sound_few (header_for c.args.desk) c.args.marks.now _ (rw c.in_ok-head.was at c.judge.ensures) in (omega (arith, f, c.well_formed), omega (arith, f, c.requires.1))

pub returns : goal.returns
returns c = settled c.args.desk c.args.coords.now c.args.marks.now c.args.table.now c.args.coordinates.now c.args.exclusions.now _ c.job_of.result c.copy_in.new.to c.copy_in-2.new.to c.requires.0 (rw c.in_ok-head.was at c.judge.ensures) c.job_of.ensures c.copy_in.ensures c.copy_in-2.ensures

pub returns-in_err-head : goal.returns-in_err-head
returns-in_err-head c =
    let r = passed_up c.from_residual.result c.in_err-head.field-0.0 c.from_residual.ensures.1 in
    rw r (unsettled c.args.desk c.args.coords.now c.args.marks.now c.args.table.now c.args.coordinates.now c.args.exclusions.now c.in_err-head.field-0.0 (rw c.in_err-head.was at c.judge.ensures))
