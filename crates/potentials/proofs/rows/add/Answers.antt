use Rattle.potentials.proofs.Laid.{kept_added}
use native.Mathlib.Omega.{arith}
use Rattle.potentials.proofs.rows.add.Goals as goal

pub offset_bounds-ways-t : goal.offset_bounds-ways-t
offset_bounds-ways-t c = omega (arith, c.requires.1.small c.args.m c.requires.0)

pub bounds-ways-t : goal.bounds-ways-t
bounds-ways-t c = omega (arith, c.requires.1.small c.args.m c.requires.0, c.requires.2)

pub overflow_add-d : goal.overflow_add-d
overflow_add-d c = omega (arith, c.requires.1.small c.args.m c.requires.0)

pub offset_bounds-ways-t-2 : goal.offset_bounds-ways-t-2
offset_bounds-ways-t-2 c = omega (arith, c.requires.1.small c.args.m c.requires.0)

pub bounds-ways-t-2 : goal.bounds-ways-t-2
bounds-ways-t-2 c = omega (arith, c.requires.1.small c.args.m c.requires.0, c.requires.2)

pub overflow_add-d-2 : goal.overflow_add-d-2
overflow_add-d-2 c = omega (arith, c.requires.1.small c.args.m c.requires.0)

pub offset_bounds-ways-t-3 : goal.offset_bounds-ways-t-3
offset_bounds-ways-t-3 c = omega (arith, c.requires.1.small c.args.m c.requires.0)

pub bounds-ways-t-3 : goal.bounds-ways-t-3
bounds-ways-t-3 c = omega (arith, c.requires.1.small c.args.m c.requires.0, c.requires.2)

pub overflow_add-from : goal.overflow_add-from
overflow_add-from c = omega (arith, c.requires.1.there c.args.m c.requires.0, c.well_formed)

pub first_of-i-requires : goal.first_of-i-requires
first_of-i-requires c = c.requires.1.there c.args.m c.requires.0

pub overflow_add-from-2 : goal.overflow_add-from-2
overflow_add-from-2 c = omega (arith, c.requires.1.there c.args.m c.requires.0, c.well_formed)

pub second_of-j-requires : goal.second_of-j-requires
second_of-j-requires c = c.requires.1.there c.args.m c.requires.0

pub returns : goal.returns
returns c = kept_added c.args.table.now c.args.from c.args.kept.now c.args.ways.now c.args.pulls.now c.args.sum c.args.forces.now c.args.m c.first_of-i.ensures c.second_of-j.ensures c.scale-f.ensures c.with_energy-s.ensures c.add_pair_force.ensures.0 c.add_pair_force.ensures.1
