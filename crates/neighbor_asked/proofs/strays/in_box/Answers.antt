use Rattle.neighbor_asked.proofs.strays.in_box.Goals as goal

pub returns : goal.returns
returns c = rw (c.is_bounded.ensures, c.in_length.ensures, c.in_length-2.ensures, c.in_length-3.ensures)
