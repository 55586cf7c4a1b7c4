use Prim.Native.Nat.{◌*◌, ◌/◌}
use Rattle.potentials_calls.proofs.AllPairs.{filled_less, left_turn, left_first, left_last}
use lib.ListN.{length}
use lib.Seq.{length-take-le}
use mathlib.Core.Path.{refl, sym, ◌∙◌}
use native.Mathlib.Omega.{arith}
use Rattle.potentials_calls.proofs.every.coulomb_from.Goals as goal

pub loop-j-init : goal.loop-j-init
loop-j-init c = (refl, refl, left_first _ _)

pub fill-c-requires : goal.fill-c-requires
fill-c-requires c = (c.loop-j.invariant.2.spot.rises, c.loop-j-test.true, c.requires.0, c.loop-j.invariant.0 ∙ c.requires.1)

pub overflow_mul-m : goal.overflow_mul-m
overflow_mul-m c = omega (arith, c.fill-c.ensures.few)

pub slice_bounds-over-end : goal.slice_bounds-over-end
slice_bounds-over-end c = omega (arith, c.fill-c.ensures.few, c.fill-c.auto.table, c.loop-j.invariant.0, c.requires.1)

pub slice_bounds-over-end-in-loop-j : goal.slice_bounds-over-end-in-loop-j
slice_bounds-over-end-in-loop-j c = sym (length-take-le (2 * c.fill-c.result.rows) c.fill-c.new.table (omega (arith, c.fill-c.ensures.few, c.fill-c.auto.table, c.loop-j.invariant.0, c.requires.1)))

pub over-s-requires : goal.over-s-requires
over-s-requires c = tt

pub loop-j-smaller : goal.loop-j-smaller
loop-j-smaller c = filled_less (length c.args.xs.now / 3) c.fill-c.new.table (c.fill-c.auto.table ∙ c.loop-j.invariant.0 ∙ c.requires.1) c.fill-c.ensures

pub loop-j-preserved : goal.loop-j-preserved
loop-j-preserved c = (c.fill-c.auto.table ∙ c.loop-j.invariant.0, c.over-s.auto.forces ∙ c.loop-j.invariant.1, left_turn (length c.args.xs.now / 3) c.fill-c.new.table (c.fill-c.auto.table ∙ c.loop-j.invariant.0 ∙ c.requires.1) c.loop-j.invariant.2 c.fill-c.ensures c.over-s.ensures)

pub shape_of-table : goal.shape_of-table
shape_of-table c = c.loop-j.invariant.0

pub shape_of-forces : goal.shape_of-forces
shape_of-forces c = c.loop-j.invariant.1

pub returns : goal.returns
returns c = left_last (length c.args.xs.now / 3) c.loop-j-test.false c.loop-j.invariant.2
