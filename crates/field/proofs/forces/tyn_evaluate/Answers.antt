use Rattle.field.proofs.forces.tyn_evaluate.Goals as goal

pub returns : goal.returns
returns c = rw (← c.into.ensures, ← c.into-2.ensures) (record { answer = c.evaluate.result; handed = c.into-3.ensures; says = (c.evaluate.ensures.says, c.evaluate.ensures.lists) })
