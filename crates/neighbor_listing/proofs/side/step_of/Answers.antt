use Rattle.neighbor_listing.proofs.side.step_of.Goals as goal

pub returns : goal.returns
returns c = rw (c.step.ensures, c.step-2.ensures, c.step-3.ensures)
