use Rattle.virial.specs.Virial.{pressure_tensor_of}
use Rattle.virial.proofs.tensors.pressure_tensor.Goals as goal

pub returns-then-volume : goal.returns-then-volume
unfolding pressure_tensor_of
returns-then-volume c = rw c.if-volume.true c.zero_tensor.ensures

pub returns : goal.returns
unfolding pressure_tensor_of
returns c = rw (c.if-volume.false, ← c.kinetic-p.ensures) c.over_volume.ensures
