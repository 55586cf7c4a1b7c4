use Rattle.answer.proofs.Passed.{passed_up}
use Prim.Native.Nat.{◌*◌}
use Rattle.sheet_answer.proofs.Telling.{job_listed, job_fits}
use lib.ListN.{take}
use lib.Seq.{length-take-le}
use mathlib.Core.Path.{sym}
use Rattle.sheet_answer.proofs.kernel.list_job.Goals as goal

pub slice_bounds-build-end : goal.slice_bounds-build-end
slice_bounds-build-end c = sym (length-take-le (3 * c.args.job.atoms) c.args.coordinates.now c.requires.0)

pub slice_bounds-build-end-2 : goal.slice_bounds-build-end-2
slice_bounds-build-end-2 c = sym (length-take-le (2 * c.args.job.count) c.args.exclusions.now c.requires.1)

pub returns : goal.returns
returns c = record { says = job_listed c.args.job (take (3 * c.args.job.atoms) c.args.coordinates.now) (take (2 * c.args.job.count) c.args.exclusions.now) c.args.pairs.now c.frame_of.result c.frame_of.ensures c.build.result c.build.new.pairs c.build.new.starts c.build.new.items c.build.ensures.says _ c.in_ok-built.was; fits = job_fits c.args.job (take (3 * c.args.job.atoms) c.args.coordinates.now) (take (2 * c.args.job.count) c.args.exclusions.now) c.args.pairs.now c.frame_of.result c.frame_of.ensures c.build.result c.build.new.pairs c.build.new.starts c.build.new.items c.build.ensures.says _ c.in_ok-built.was c.build.ensures.lists (length-take-le (3 * c.args.job.atoms) c.args.coordinates.now c.requires.0) }

pub returns-in_err-built : goal.returns-in_err-built
returns-in_err-built c =
    let r = passed_up c.from_residual.result c.in_err-built.field-0.0 c.from_residual.ensures.1 in
    record { says = rw r (job_listed c.args.job (take (3 * c.args.job.atoms) c.args.coordinates.now) (take (2 * c.args.job.count) c.args.exclusions.now) c.args.pairs.now c.frame_of.result c.frame_of.ensures c.build.result c.build.new.pairs c.build.new.starts c.build.new.items c.build.ensures.says _ c.in_err-built.was); fits = rw r (job_fits c.args.job (take (3 * c.args.job.atoms) c.args.coordinates.now) (take (2 * c.args.job.count) c.args.exclusions.now) c.args.pairs.now c.frame_of.result c.frame_of.ensures c.build.result c.build.new.pairs c.build.new.starts c.build.new.items c.build.ensures.says _ c.in_err-built.was c.build.ensures.lists (length-take-le (3 * c.args.job.atoms) c.args.coordinates.now c.requires.0)) }
