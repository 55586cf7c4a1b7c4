use Rattle.field.proofs.frames.tyn_frame_build.Goals as goal

pub returns : goal.returns
returns c = rw (← c.into.ensures) (record { answer = c.build.result; handed = c.into-2.ensures; says = (c.build.ensures.says, c.build.ensures.lists) })
