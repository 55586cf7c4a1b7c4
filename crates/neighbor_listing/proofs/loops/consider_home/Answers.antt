use Rattle.neighbor_listing.proofs.loops.consider_home.Goals as goal

pub home_few-requires : goal.home_few-requires
home_few-requires c = (c.requires.0, c.if-home-le64.true, c.requires.1)

pub shape_of-pairs-then-home-le64 : goal.shape_of-pairs-then-home-le64
shape_of-pairs-then-home-le64 c = c.home_few.auto.pairs

pub returns-then-home-le64 : goal.returns-then-home-le64
returns-then-home-le64 c = c.home_few.ensures

pub home_many-requires : goal.home_many-requires
home_many-requires c = c.requires

pub shape_of-pairs : goal.shape_of-pairs
shape_of-pairs c = c.home_many.auto.pairs

pub returns : goal.returns
returns c = c.home_many.ensures
