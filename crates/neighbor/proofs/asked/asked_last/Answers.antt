use Rattle.neighbor_asked.specs.Asked.{first_refusal}
use Rattle.neighbor.proofs.asked.asked_last.Goals as goal

pub returns-then-may : goal.returns-then-may
returns-then-may c = simp (c.if-may.true, c.asked_both.ensures)

pub returns : goal.returns
unfolding first_refusal
returns c = simp (c.if-may.false, c.asked_table.ensures)
