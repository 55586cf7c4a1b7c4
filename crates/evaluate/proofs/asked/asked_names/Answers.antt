use Rattle.evaluate.specs.Asked.{names_asked}
use Rattle.evaluate.proofs.asked.asked_names.Goals as goal

pub returns : goal.returns
returns c = unfold names_asked in rw (← c.asked_bonds-a.ensures, ← c.asked_angles-b.ensures, ← c.asked_table-c.ensures, ← c.asked_order-d.ensures) c.names_in_turn.ensures
