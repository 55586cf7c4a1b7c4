use Rattle.neighbor_grid.proofs.measuring.lower.Goals as goal

pub returns : goal.returns
returns c = cc
