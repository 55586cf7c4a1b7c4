use Rattle.sheet_answer.proofs.kernel.refuse.Goals as goal

pub returns : goal.returns
returns c = rw (c.number.ensures, c.place.ensures) at c.put_refusal.ensures
