use Rattle.answer.proofs.Passed.{passed_up}
use Rattle.answer.specs.Seen.{answered}
use Rattle.sheet.proofs.SettlingTwo.{job_few, settled_two, unsettled_two}
use Rattle.sheet.specs.Desk.{meaning_for}
use Rattle.sheet.specs.Reading.{then_tested}
use native.Mathlib.Omega.{arith}
use Rattle.sheet.proofs.two.settle_two.Goals as goal

pub copy_species-requires : goal.copy_species-requires
copy_species-requires c = let f = job_few (meaning_for c.args.desk c.args.coords.now c.args.marks.now c.args.table.now) c.in_ok-job.job c.settle.new.coordinates c.settle.new.exclusions c.args.coordinates.now c.args.exclusions.now (rw c.in_ok-job.was at c.settle.ensures) in (omega (arith, f, c.well_formed), omega (arith, f, c.requires.2))

pub returns : goal.returns
returns c = settled_two c.args.rule c.args.kinds.now c.args.coordinates.now c.args.species.now c.args.exclusions.now (then_tested (answered (meaning_for c.args.desk c.args.coords.now c.args.marks.now c.args.table.now))) c.in_ok-job.job c.settle.new.coordinates _ c.settle.new.exclusions (rw c.in_ok-job.was at c.settle.ensures) c.copy_species.ensures

pub returns-in_err-job : goal.returns-in_err-job
returns-in_err-job c =
    let r = passed_up c.from_residual.result c.in_err-job.field-0.0 c.from_residual.ensures.1 in
    rw r (unsettled_two c.args.rule c.args.kinds.now c.args.coordinates.now c.args.species.now c.args.exclusions.now (then_tested (answered (meaning_for c.args.desk c.args.coords.now c.args.marks.now c.args.table.now))) c.in_err-job.field-0.0 c.settle.new.coordinates c.settle.new.exclusions (rw c.in_err-job.was at c.settle.ensures))
