use Rattle.neighbor_grid.proofs.laying.sizes.Goals as goal

pub returns : goal.returns
returns c = cc
