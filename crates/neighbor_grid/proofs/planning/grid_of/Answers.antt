use Rattle.neighbor_grid.proofs.planning.grid_of.Goals as goal

pub returns : goal.returns
returns c = cc
