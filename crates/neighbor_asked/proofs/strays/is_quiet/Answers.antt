use Rattle.neighbor_asked.proofs.strays.is_quiet.Goals as goal

pub returns : goal.returns
returns c = rw (c.is_within.ensures, c.is_within-2.ensures)
