use Prim.Native.Nat.{ℕ}
use Rattle.sheet_rewritten.proofs.Forms.{too_small, rewrote, read_answered, read_refused, handed_form}
use lib.ListN.{replicate, length-replicate}
use lib.Seq.{length-take-le}
use mathlib.Core.Path.{sym, refl}
use native.Mathlib.Omega.{arith}
use Rattle.sheet_rewritten.proofs.rewrite.Goals as goal

pub returns-then-out-lt43049 : goal.returns-then-out-lt43049
returns-then-out-lt43049 c = too_small c.args.input.now c.args.out.now c.if-out-lt43049.true

pub slice_bounds-coordinates-end : goal.slice_bounds-coordinates-end
slice_bounds-coordinates-end c = let h = read_answered c.args.input.now (replicate 3072 0) (replicate 2048 0) (omega (arith, length-replicate {A = ℕ} 3072 0)) (omega (arith, length-replicate {A = ℕ} 2048 0)) c.read-sheet.result _ c.read-sheet.new.coordinates c.read-sheet.new.exclusions c.in-Ok.is c.read-sheet.ensures in omega (arith, h.atoms, c.read-sheet.auto.coordinates)

pub slice_bounds-put_frame-end : goal.slice_bounds-put_frame-end
slice_bounds-put_frame-end c = let h = read_answered c.args.input.now (replicate 3072 0) (replicate 2048 0) (omega (arith, length-replicate {A = ℕ} 3072 0)) (omega (arith, length-replicate {A = ℕ} 2048 0)) c.read-sheet.result _ c.read-sheet.new.coordinates c.read-sheet.new.exclusions c.in-Ok.is c.read-sheet.ensures in sym (length-take-le _ _ (omega (arith, h.atoms, c.read-sheet.auto.coordinates)))

pub slice_bounds-exclusions-end : goal.slice_bounds-exclusions-end
slice_bounds-exclusions-end c = let h = read_answered c.args.input.now (replicate 3072 0) (replicate 2048 0) (omega (arith, length-replicate {A = ℕ} 3072 0)) (omega (arith, length-replicate {A = ℕ} 2048 0)) c.read-sheet.result _ c.read-sheet.new.coordinates c.read-sheet.new.exclusions c.in-Ok.is c.read-sheet.ensures in omega (arith, h.count, c.read-sheet.auto.exclusions)

pub slice_bounds-put_frame-end-in-Ok : goal.slice_bounds-put_frame-end-in-Ok
slice_bounds-put_frame-end-in-Ok c = let h = read_answered c.args.input.now (replicate 3072 0) (replicate 2048 0) (omega (arith, length-replicate {A = ℕ} 3072 0)) (omega (arith, length-replicate {A = ℕ} 2048 0)) c.read-sheet.result _ c.read-sheet.new.coordinates c.read-sheet.new.exclusions c.in-Ok.is c.read-sheet.ensures in sym (length-take-le _ _ (omega (arith, h.count, c.read-sheet.auto.exclusions)))

pub returns-in-Ok : goal.returns-in-Ok
returns-in-Ok c = let h = read_answered c.args.input.now (replicate 3072 0) (replicate 2048 0) (omega (arith, length-replicate {A = ℕ} 3072 0)) (omega (arith, length-replicate {A = ℕ} 2048 0)) c.read-sheet.result _ c.read-sheet.new.coordinates c.read-sheet.new.exclusions c.in-Ok.is c.read-sheet.ensures in rewrote c.args.input.now c.args.out.now _ _ c.put_frame-bytes.result c.if-out-lt43049.false (handed_form c.args.input.now (replicate 3072 0) (replicate 2048 0) (omega (arith, length-replicate {A = ℕ} 3072 0)) (omega (arith, length-replicate {A = ℕ} 2048 0)) _ c.read-sheet.new.coordinates c.read-sheet.new.exclusions _ _ _ h c.frame_of.ensures refl refl) c.put_frame-bytes.ensures.value c.put_frame-bytes.ensures.out_after

pub returns-in-Err : goal.returns-in-Err
returns-in-Err c = rewrote c.args.input.now c.args.out.now _ _ c.refuse-bytes.result c.if-out-lt43049.false (read_refused c.args.input.now (replicate 3072 0) (replicate 2048 0) (omega (arith, length-replicate {A = ℕ} 3072 0)) (omega (arith, length-replicate {A = ℕ} 2048 0)) c.read-sheet.result c.in-Err.r c.read-sheet.new.coordinates c.read-sheet.new.exclusions c.in-Err.is c.read-sheet.ensures) c.refuse-bytes.ensures.value c.refuse-bytes.ensures.out_after
