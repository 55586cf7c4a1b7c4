use Rattle.field.proofs.motion.tyn_step.Goals as goal

pub returns : goal.returns
returns c = rw (← c.into.ensures, ← c.into-2.ensures, ← c.into-3.ensures) (record { answer = c.step.result; handed = c.into-4.ensures; says = (c.step.ensures.says, c.step.ensures.lists) })
