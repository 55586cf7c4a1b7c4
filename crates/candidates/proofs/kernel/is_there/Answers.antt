use Rattle.candidates.proofs.kernel.is_there.Goals as goal

pub returns : goal.returns
returns c = rw (c.number.ensures, c.number-2.ensures)
