use Rattle.neighbor_grid.proofs.measuring.upper.Goals as goal

pub returns : goal.returns
returns c = cc
