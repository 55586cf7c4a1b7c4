use Rattle.answer.proofs.Passed.{passed_up}
use Rattle.sheet_written.proofs.Cases.{write_fine}
use Rattle.sheet_written.proofs.TwoAfterAnother.{two_refused, two_full, two_done}
use native.Mathlib.Omega.{arith}
use Rattle.sheet_written.proofs.two.write_two.Goals as goal

pub returns-in_err-asked : goal.returns-in_err-asked
returns-in_err-asked c =
    let r = passed_up c.from_residual.result c.in_err-asked.field-0.0 c.from_residual.ensures.1 in
    rw r (two_refused c.args.f c.args.coordinates.now c.args.exclusions.now c.args.out.now c.asked.result c.asked.ensures c.in_err-asked.was)

pub overflow_mul-bytes : goal.overflow_mul-bytes
overflow_mul-bytes c = let z = write_fine c.args.f c.args.coordinates.now c.args.exclusions.now c.args.out.now c.asked.result c.asked.ensures c.in_ok-asked.was in omega (arith, z.few)

pub overflow_add-bytes : goal.overflow_add-bytes
overflow_add-bytes c = let z = write_fine c.args.f c.args.coordinates.now c.args.exclusions.now c.args.out.now c.asked.result c.asked.ensures c.in_ok-asked.was in omega (arith, z.few)

pub overflow_mul-bytes-2 : goal.overflow_mul-bytes-2
overflow_mul-bytes-2 c = let z = write_fine c.args.f c.args.coordinates.now c.args.exclusions.now c.args.out.now c.asked.result c.asked.ensures c.in_ok-asked.was in omega (arith, z.exclusions.few)

pub overflow_add-bytes-2 : goal.overflow_add-bytes-2
overflow_add-bytes-2 c = let z = write_fine c.args.f c.args.coordinates.now c.args.exclusions.now c.args.out.now c.asked.result c.asked.ensures c.in_ok-asked.was in omega (arith, z.few, z.exclusions.few)

pub returns-then-out-bytes : goal.returns-then-out-bytes
returns-then-out-bytes c = two_full c.args.f c.args.coordinates.now c.args.exclusions.now c.args.out.now c.asked.result c.asked.ensures c.in_ok-asked.was c.if-out-bytes.true

pub overflow_cast-n : goal.overflow_cast-n
overflow_cast-n c = let z = write_fine c.args.f c.args.coordinates.now c.args.exclusions.now c.args.out.now c.asked.result c.asked.ensures c.in_ok-asked.was in omega (arith, z.few)

pub put_atoms_two-requires : goal.put_atoms_two-requires
put_atoms_two-requires c = let z = write_fine c.args.f c.args.coordinates.now c.args.exclusions.now c.args.out.now c.asked.result c.asked.ensures c.in_ok-asked.was in omega (arith, z.few)

pub overflow_mul-n : goal.overflow_mul-n
overflow_mul-n c = let z = write_fine c.args.f c.args.coordinates.now c.args.exclusions.now c.args.out.now c.asked.result c.asked.ensures c.in_ok-asked.was in omega (arith, z.few)

pub overflow_add-n : goal.overflow_add-n
overflow_add-n c = let z = write_fine c.args.f c.args.coordinates.now c.args.exclusions.now c.args.out.now c.asked.result c.asked.ensures c.in_ok-asked.was in omega (arith, z.few)

pub put_rows-requires : goal.put_rows-requires
put_rows-requires c = let z = write_fine c.args.f c.args.coordinates.now c.args.exclusions.now c.args.out.now c.asked.result c.asked.ensures c.in_ok-asked.was in (omega (arith, z.few), omega (arith, z.exclusions.few))

pub returns : goal.returns
returns c = two_done c.args.f c.args.coordinates.now c.args.exclusions.now c.args.out.now c.asked.result c.asked.ensures c.in_ok-asked.was _ _ _ _ c.if-out-bytes.false c.head_of.ensures c.put_header_two.ensures c.put_atoms_two.ensures c.put_rows.ensures
