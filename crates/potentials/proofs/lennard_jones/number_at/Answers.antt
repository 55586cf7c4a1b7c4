use Rattle.potentials.proofs.Near.{numbered_at}
use lib.ListN.{length-set}
use native.Mathlib.Omega.{arith}
use Rattle.potentials.proofs.lennard_jones.number_at.Goals as goal

pub overflow_add-k : goal.overflow_add-k
overflow_add-k c = omega (arith, c.requires.m_lt_n.1.there c.args.m c.requires.m_lt_n.0, c.well_formed)

pub first_of-requires : goal.first_of-requires
first_of-requires c = c.requires.m_lt_n.1.there c.args.m c.requires.m_lt_n.0

pub second_of-requires : goal.second_of-requires
second_of-requires c = c.requires.m_lt_n.1.there c.args.m c.requires.m_lt_n.0

pub overflow_add-room : goal.overflow_add-room
overflow_add-room c = omega (arith, c.requires.m_lt_n.0, c.requires.m_lt_n.1.few)

pub offset_bounds-room-m : goal.offset_bounds-room-m
offset_bounds-room-m c = omega (arith, c.requires.m_lt_n.0, c.requires.m_lt_n.1.few)

pub bounds-room-m : goal.bounds-room-m
bounds-room-m c = omega (arith, c.recall-r.ensures.renewed.kept.block.room561, c.requires.m_lt_n.0, c.requires.m_lt_n.1.few)

pub overflow_add-room-2 : goal.overflow_add-room-2
overflow_add-room-2 c = omega (arith, c.requires.m_lt_n.0, c.requires.m_lt_n.1.few)

pub offset_bounds-room-m-2 : goal.offset_bounds-room-m-2
offset_bounds-room-m-2 c = omega (arith, c.requires.m_lt_n.0, c.requires.m_lt_n.1.few)

pub bounds-room-m-2 : goal.bounds-room-m-2
bounds-room-m-2 c = simp length-set (omega (arith, c.recall-r.ensures.renewed.kept.block.room561, c.requires.m_lt_n.0, c.requires.m_lt_n.1.few))

pub overflow_add-room-3 : goal.overflow_add-room-3
overflow_add-room-3 c = omega (arith, c.requires.m_lt_n.0, c.requires.m_lt_n.1.few)

pub offset_bounds-room-m-3 : goal.offset_bounds-room-m-3
offset_bounds-room-m-3 c = omega (arith, c.requires.m_lt_n.0, c.requires.m_lt_n.1.few)

pub bounds-room-m-3 : goal.bounds-room-m-3
bounds-room-m-3 c = simp length-set (omega (arith, c.recall-r.ensures.renewed.kept.block.room561, c.requires.m_lt_n.0, c.requires.m_lt_n.1.few))

pub returns : goal.returns
returns c = numbered_at _ _ c.args.species.now c.args.table.now c.args.from c.args.m (omega (arith, c.requires.m_lt_n.0, c.requires.m_lt_n.1.few)) c.first_of.ensures c.second_of.ensures c.species_of-y.ensures c.species_of-z.ensures c.recall-r.ensures.value c.recall-r.ensures.renewed
