use Rattle.answer.proofs.Passed.{passed_up}
use Prim.Native.Nat.{ℕ}
use Rattle.sheet_answer.proofs.TellingEither.{either_answered, either_refused}
use lib.ListN.{replicate, length-replicate}
use mathlib.Core.Path.{◌∙◌}
use native.Mathlib.Omega.{arith}
use Rattle.sheet_answer.proofs.either.list_either.Goals as goal

pub list_job-requires : goal.list_job-requires
list_job-requires c = let h = either_answered c.args.input.now (replicate 3072 0) (replicate 1024 0) (replicate 2048 0) (omega (arith, length-replicate {A = ℕ} 3072 0)) (omega (arith, length-replicate {A = ℕ} 1024 0)) (omega (arith, length-replicate {A = ℕ} 2048 0)) c.read_either.result _ c.read_either.new.coordinates c.read_either.new.species c.read_either.new.exclusions c.in_ok-formed.was c.read_either.ensures in (omega (arith, h.0.atoms, c.read_either.auto.coordinates), omega (arith, h.0.count, c.read_either.auto.exclusions))

pub returns : goal.returns
returns c = let h = either_answered c.args.input.now (replicate 3072 0) (replicate 1024 0) (replicate 2048 0) (omega (arith, length-replicate {A = ℕ} 3072 0)) (omega (arith, length-replicate {A = ℕ} 1024 0)) (omega (arith, length-replicate {A = ℕ} 2048 0)) c.read_either.result _ c.read_either.new.coordinates c.read_either.new.species c.read_either.new.exclusions c.in_ok-formed.was c.read_either.ensures in c.list_job.ensures.says ∙ h.0.list c.args.pairs.now ∙ h.1 c.args.pairs.now

pub returns-in_err-formed : goal.returns-in_err-formed
returns-in_err-formed c =
    let r = passed_up c.from_residual.result c.in_err-formed.field-0.0 c.from_residual.ensures.1 in
    rw r (either_refused c.args.input.now (replicate 3072 0) (replicate 1024 0) (replicate 2048 0) (omega (arith, length-replicate {A = ℕ} 3072 0)) (omega (arith, length-replicate {A = ℕ} 1024 0)) (omega (arith, length-replicate {A = ℕ} 2048 0)) c.read_either.result _ c.read_either.new.coordinates c.read_either.new.species c.read_either.new.exclusions c.in_err-formed.was c.read_either.ensures c.args.pairs.now)
