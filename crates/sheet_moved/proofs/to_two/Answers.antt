use Rattle.answer.proofs.Passed.{passed_up}
use Prim.Native.Nat.{ℕ, ◌*◌}
use Rattle.sheet_moved.proofs.Moves.{wrote_forth, forth_refused}
use Rattle.sheet_rewritten.proofs.Forms.{read_answered}
use lib.ListN.{replicate, length-replicate}
use lib.Seq.{length-take-le}
use mathlib.Core.Path.{sym, refl}
use native.Mathlib.Omega.{arith}
use Rattle.sheet_moved.proofs.to_two.Goals as goal

pub slice_bounds-coordinates-end : goal.slice_bounds-coordinates-end
slice_bounds-coordinates-end c = let h = read_answered c.args.input.now (replicate 3072 0) (replicate 2048 0) (omega (arith, length-replicate {A = ℕ} 3072 0)) (omega (arith, length-replicate {A = ℕ} 2048 0)) c.read.result _ c.read.new.coordinates c.read.new.exclusions c.in_ok-job.was c.read.ensures in omega (arith, h.atoms, c.read.auto.coordinates)

pub slice_bounds-write_two-end : goal.slice_bounds-write_two-end
slice_bounds-write_two-end c = let h = read_answered c.args.input.now (replicate 3072 0) (replicate 2048 0) (omega (arith, length-replicate {A = ℕ} 3072 0)) (omega (arith, length-replicate {A = ℕ} 2048 0)) c.read.result _ c.read.new.coordinates c.read.new.exclusions c.in_ok-job.was c.read.ensures in sym (length-take-le _ _ (omega (arith, h.atoms, c.read.auto.coordinates)))

pub slice_bounds-exclusions-end : goal.slice_bounds-exclusions-end
slice_bounds-exclusions-end c = let h = read_answered c.args.input.now (replicate 3072 0) (replicate 2048 0) (omega (arith, length-replicate {A = ℕ} 3072 0)) (omega (arith, length-replicate {A = ℕ} 2048 0)) c.read.result _ c.read.new.coordinates c.read.new.exclusions c.in_ok-job.was c.read.ensures in omega (arith, h.count, c.read.auto.exclusions)

pub slice_bounds-write_two-end-2 : goal.slice_bounds-write_two-end-2
slice_bounds-write_two-end-2 c = let h = read_answered c.args.input.now (replicate 3072 0) (replicate 2048 0) (omega (arith, length-replicate {A = ℕ} 3072 0)) (omega (arith, length-replicate {A = ℕ} 2048 0)) c.read.result _ c.read.new.coordinates c.read.new.exclusions c.in_ok-job.was c.read.ensures in sym (length-take-le _ _ (omega (arith, h.count, c.read.auto.exclusions)))

pub returns : goal.returns
returns c = let h = read_answered c.args.input.now (replicate 3072 0) (replicate 2048 0) (omega (arith, length-replicate {A = ℕ} 3072 0)) (omega (arith, length-replicate {A = ℕ} 2048 0)) c.read.result _ c.read.new.coordinates c.read.new.exclusions c.in_ok-job.was c.read.ensures in wrote_forth c.args.input.now (replicate 3072 0) (replicate 2048 0) (omega (arith, length-replicate {A = ℕ} 3072 0)) (omega (arith, length-replicate {A = ℕ} 2048 0)) c.in_ok-job.job c.read.new.coordinates c.read.new.exclusions c.args.out.now h c.frame_of.result (3 * c.in_ok-job.job.atoms) (2 * c.in_ok-job.job.count) c.write_two.result c.write_two.new.out c.frame_of.ensures refl refl c.write_two.ensures

pub returns-in_err-job : goal.returns-in_err-job
returns-in_err-job c =
    let r = passed_up c.from_residual.result c.in_err-job.field-0.0 c.from_residual.ensures.1 in
    rw r (forth_refused c.args.input.now (replicate 3072 0) (replicate 2048 0) (omega (arith, length-replicate {A = ℕ} 3072 0)) (omega (arith, length-replicate {A = ℕ} 2048 0)) c.in_err-job.field-0.0 c.read.new.coordinates c.read.new.exclusions c.args.out.now (rw c.in_err-job.was at c.read.ensures))
