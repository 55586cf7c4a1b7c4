use Rattle.neighbor_grid.proofs.measuring.turned.Goals as goal

pub returns : goal.returns
returns c = cc
