use Rattle.answer.proofs.Passed.{passed_up}
use Rattle.sheet_moved.specs.declared.MoveError.TheVariants.{Refused}
use Prim.Native.Nat.{ℕ, ◌*◌}
use Rattle.sheet_moved.proofs.Moves.{two_told, typed_back, wrote_back, back_refused, ruled_back}
use lib.ListN.{replicate, length-replicate}
use lib.Seq.{length-take-le}
use mathlib.Core.Path.{sym, refl}
use native.Mathlib.Omega.{arith}
use Rattle.sheet_moved.proofs.to_one.Goals as goal

pub returns-then-said-ne1 : goal.returns-then-said-ne1
returns-then-said-ne1 c = let h = two_told c.args.input.now (replicate 3072 0) (replicate 1024 0) (replicate 2048 0) (omega (arith, length-replicate {A = ℕ} 3072 0)) (omega (arith, length-replicate {A = ℕ} 1024 0)) (omega (arith, length-replicate {A = ℕ} 2048 0)) c.in_ok-said.said c.read_two.new.coordinates c.read_two.new.species c.read_two.new.exclusions (rw c.in_ok-said.was at c.read_two.ensures) in ruled_back c.args.input.now (replicate 3072 0) (replicate 1024 0) (replicate 2048 0) (omega (arith, length-replicate {A = ℕ} 3072 0)) (omega (arith, length-replicate {A = ℕ} 1024 0)) (omega (arith, length-replicate {A = ℕ} 2048 0)) c.in_ok-said.said c.read_two.new.coordinates c.read_two.new.species c.read_two.new.exclusions c.args.out.now h c.if-said-ne1.true

pub slice_bounds-species-end : goal.slice_bounds-species-end
slice_bounds-species-end c = let h = two_told c.args.input.now (replicate 3072 0) (replicate 1024 0) (replicate 2048 0) (omega (arith, length-replicate {A = ℕ} 3072 0)) (omega (arith, length-replicate {A = ℕ} 1024 0)) (omega (arith, length-replicate {A = ℕ} 2048 0)) c.in_ok-said.said c.read_two.new.coordinates c.read_two.new.species c.read_two.new.exclusions (rw c.in_ok-said.was at c.read_two.ensures) in omega (arith, h.atoms, c.read_two.auto.species)

pub slice_bounds-first_typed-end : goal.slice_bounds-first_typed-end
slice_bounds-first_typed-end c = let h = two_told c.args.input.now (replicate 3072 0) (replicate 1024 0) (replicate 2048 0) (omega (arith, length-replicate {A = ℕ} 3072 0)) (omega (arith, length-replicate {A = ℕ} 1024 0)) (omega (arith, length-replicate {A = ℕ} 2048 0)) c.in_ok-said.said c.read_two.new.coordinates c.read_two.new.species c.read_two.new.exclusions (rw c.in_ok-said.was at c.read_two.ensures) in sym (length-take-le _ _ (omega (arith, h.atoms, c.read_two.auto.species)))

pub returns-then-k-atoms : goal.returns-then-k-atoms
returns-then-k-atoms c = let h = two_told c.args.input.now (replicate 3072 0) (replicate 1024 0) (replicate 2048 0) (omega (arith, length-replicate {A = ℕ} 3072 0)) (omega (arith, length-replicate {A = ℕ} 1024 0)) (omega (arith, length-replicate {A = ℕ} 2048 0)) c.in_ok-said.said c.read_two.new.coordinates c.read_two.new.species c.read_two.new.exclusions (rw c.in_ok-said.was at c.read_two.ensures) in typed_back c.args.input.now (replicate 3072 0) (replicate 1024 0) (replicate 2048 0) (omega (arith, length-replicate {A = ℕ} 3072 0)) (omega (arith, length-replicate {A = ℕ} 1024 0)) (omega (arith, length-replicate {A = ℕ} 2048 0)) c.in_ok-said.said c.read_two.new.coordinates c.read_two.new.species c.read_two.new.exclusions c.args.out.now h c.if-said-ne1.false c.first_typed-k.result c.first_typed-k.ensures c.if-k-atoms.true

pub slice_bounds-coordinates-end : goal.slice_bounds-coordinates-end
slice_bounds-coordinates-end c = let h = two_told c.args.input.now (replicate 3072 0) (replicate 1024 0) (replicate 2048 0) (omega (arith, length-replicate {A = ℕ} 3072 0)) (omega (arith, length-replicate {A = ℕ} 1024 0)) (omega (arith, length-replicate {A = ℕ} 2048 0)) c.in_ok-said.said c.read_two.new.coordinates c.read_two.new.species c.read_two.new.exclusions (rw c.in_ok-said.was at c.read_two.ensures) in omega (arith, h.atoms, c.read_two.auto.coordinates)

pub slice_bounds-write-end : goal.slice_bounds-write-end
slice_bounds-write-end c = let h = two_told c.args.input.now (replicate 3072 0) (replicate 1024 0) (replicate 2048 0) (omega (arith, length-replicate {A = ℕ} 3072 0)) (omega (arith, length-replicate {A = ℕ} 1024 0)) (omega (arith, length-replicate {A = ℕ} 2048 0)) c.in_ok-said.said c.read_two.new.coordinates c.read_two.new.species c.read_two.new.exclusions (rw c.in_ok-said.was at c.read_two.ensures) in sym (length-take-le _ _ (omega (arith, h.atoms, c.read_two.auto.coordinates)))

pub slice_bounds-exclusions-end : goal.slice_bounds-exclusions-end
slice_bounds-exclusions-end c = let h = two_told c.args.input.now (replicate 3072 0) (replicate 1024 0) (replicate 2048 0) (omega (arith, length-replicate {A = ℕ} 3072 0)) (omega (arith, length-replicate {A = ℕ} 1024 0)) (omega (arith, length-replicate {A = ℕ} 2048 0)) c.in_ok-said.said c.read_two.new.coordinates c.read_two.new.species c.read_two.new.exclusions (rw c.in_ok-said.was at c.read_two.ensures) in omega (arith, h.count, c.read_two.auto.exclusions)

pub slice_bounds-write-end-2 : goal.slice_bounds-write-end-2
slice_bounds-write-end-2 c = let h = two_told c.args.input.now (replicate 3072 0) (replicate 1024 0) (replicate 2048 0) (omega (arith, length-replicate {A = ℕ} 3072 0)) (omega (arith, length-replicate {A = ℕ} 1024 0)) (omega (arith, length-replicate {A = ℕ} 2048 0)) c.in_ok-said.said c.read_two.new.coordinates c.read_two.new.species c.read_two.new.exclusions (rw c.in_ok-said.was at c.read_two.ensures) in sym (length-take-le _ _ (omega (arith, h.count, c.read_two.auto.exclusions)))

pub returns : goal.returns
returns c =
    let h = two_told c.args.input.now (replicate 3072 0) (replicate 1024 0) (replicate 2048 0) (omega (arith, length-replicate {A = ℕ} 3072 0)) (omega (arith, length-replicate {A = ℕ} 1024 0)) (omega (arith, length-replicate {A = ℕ} 2048 0)) c.in_ok-said.said c.read_two.new.coordinates c.read_two.new.species c.read_two.new.exclusions (rw c.in_ok-said.was at c.read_two.ensures) in
    rw c.in_ok-bytes.was at (wrote_back c.args.input.now (replicate 3072 0) (replicate 1024 0) (replicate 2048 0) (omega (arith, length-replicate {A = ℕ} 3072 0)) (omega (arith, length-replicate {A = ℕ} 1024 0)) (omega (arith, length-replicate {A = ℕ} 2048 0)) c.in_ok-said.said c.read_two.new.coordinates c.read_two.new.species c.read_two.new.exclusions c.args.out.now h c.if-said-ne1.false c.first_typed-k.result c.first_typed-k.ensures c.if-k-atoms.false c.frame_of.result (3 * c.in_ok-said.said.job.atoms) (2 * c.in_ok-said.said.job.count) c.write.result c.write.new.out c.frame_of.ensures refl refl c.write.ensures)

pub returns-in_err-bytes : goal.returns-in_err-bytes
returns-in_err-bytes c =
    let h = two_told c.args.input.now (replicate 3072 0) (replicate 1024 0) (replicate 2048 0) (omega (arith, length-replicate {A = ℕ} 3072 0)) (omega (arith, length-replicate {A = ℕ} 1024 0)) (omega (arith, length-replicate {A = ℕ} 2048 0)) c.in_ok-said.said c.read_two.new.coordinates c.read_two.new.species c.read_two.new.exclusions (rw c.in_ok-said.was at c.read_two.ensures) in
    let r = passed_up c.from_residual-in_err-bytes.result (Refused c.in_err-bytes.field-0.0) c.from_residual-in_err-bytes.ensures.1 in
    rw r (rw c.in_err-bytes.was at (wrote_back c.args.input.now (replicate 3072 0) (replicate 1024 0) (replicate 2048 0) (omega (arith, length-replicate {A = ℕ} 3072 0)) (omega (arith, length-replicate {A = ℕ} 1024 0)) (omega (arith, length-replicate {A = ℕ} 2048 0)) c.in_ok-said.said c.read_two.new.coordinates c.read_two.new.species c.read_two.new.exclusions c.args.out.now h c.if-said-ne1.false c.first_typed-k.result c.first_typed-k.ensures c.if-k-atoms.false c.frame_of.result (3 * c.in_ok-said.said.job.atoms) (2 * c.in_ok-said.said.job.count) c.write.result c.write.new.out c.frame_of.ensures refl refl c.write.ensures))

pub returns-in_err-said : goal.returns-in_err-said
returns-in_err-said c =
    let r = passed_up c.from_residual.result (Refused c.in_err-said.field-0.0) c.from_residual.ensures.1 in
    rw r (back_refused c.args.input.now (replicate 3072 0) (replicate 1024 0) (replicate 2048 0) (omega (arith, length-replicate {A = ℕ} 3072 0)) (omega (arith, length-replicate {A = ℕ} 1024 0)) (omega (arith, length-replicate {A = ℕ} 2048 0)) c.in_err-said.field-0.0 c.read_two.new.coordinates c.read_two.new.species c.read_two.new.exclusions c.args.out.now (rw c.in_err-said.was at c.read_two.ensures))
