use Rattle.neighbor_listing.proofs.loops.consider_cross.Goals as goal

pub cross_few-requires : goal.cross_few-requires
cross_few-requires c = (c.requires.0, c.requires.1, c.if-other-le64.true, c.requires.2, c.requires.3)

pub shape_of-pairs-then-other-le64 : goal.shape_of-pairs-then-other-le64
shape_of-pairs-then-other-le64 c = c.cross_few.auto.pairs

pub returns-then-other-le64 : goal.returns-then-other-le64
returns-then-other-le64 c = c.cross_few.ensures

pub cross_many-requires : goal.cross_many-requires
cross_many-requires c = (c.requires.0, c.requires.1, c.requires.2)

pub shape_of-pairs : goal.shape_of-pairs
shape_of-pairs c = c.cross_many.auto.pairs

pub returns : goal.returns
returns c = c.cross_many.ensures
