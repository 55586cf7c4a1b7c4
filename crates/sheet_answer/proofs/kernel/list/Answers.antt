use Rattle.answer.proofs.Passed.{passed_up}
use Prim.Native.Nat.{ℕ}
use Rattle.lists.proofs.Cases.{impossible}
use Rattle.sheet_answer.proofs.Telling.{read_answered, read_refused}
use lib.ListN.{replicate, length-replicate}
use mathlib.Core.Path.{◌∙◌}
use native.Mathlib.Omega.{arith}
use Rattle.sheet_answer.proofs.kernel.list.Goals as goal

pub list_job-requires : goal.list_job-requires
list_job-requires c = let h = read_answered c.args.input.now (replicate 3072 0) (replicate 2048 0) (omega (arith, length-replicate {A = ℕ} 3072 0)) (omega (arith, length-replicate {A = ℕ} 2048 0)) c.read.result _ c.read.new.coordinates c.read.new.exclusions c.in_ok-job.was c.read.ensures in (omega (arith, h.0.atoms, c.read.auto.coordinates), omega (arith, h.0.count, c.read.auto.exclusions))

pub returns : goal.returns
returns c = let h = read_answered c.args.input.now (replicate 3072 0) (replicate 2048 0) (omega (arith, length-replicate {A = ℕ} 3072 0)) (omega (arith, length-replicate {A = ℕ} 2048 0)) c.read.result _ c.read.new.coordinates c.read.new.exclusions c.in_ok-job.was c.read.ensures in record { says = c.list_job.ensures.says ∙ h.0.list c.args.pairs.now ∙ h.1 c.args.pairs.now; fits = c.list_job.ensures.fits h.0.few }

pub returns-in_err-job : goal.returns-in_err-job
returns-in_err-job c =
    let r = passed_up c.from_residual.result c.in_err-job.field-0.0 c.from_residual.ensures.1 in
    record { says = rw r (read_refused c.args.input.now (replicate 3072 0) (replicate 2048 0) (omega (arith, length-replicate {A = ℕ} 3072 0)) (omega (arith, length-replicate {A = ℕ} 2048 0)) c.read.result _ c.read.new.coordinates c.read.new.exclusions c.in_err-job.was c.read.ensures c.args.pairs.now); fits = rw r ((λ k e. impossible (cc))) }
