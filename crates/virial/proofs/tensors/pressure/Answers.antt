use Rattle.virial.specs.Virial.{pressure_of}
use Rattle.virial.proofs.tensors.pressure.Goals as goal

pub returns-then-volume : goal.returns-then-volume
unfolding pressure_of
returns-then-volume c = simp c.if-volume.true

pub returns : goal.returns
unfolding pressure_of
returns c = simp c.if-volume.false
