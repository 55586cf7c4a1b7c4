use Rattle.virial.specs.Virial.{scalar_virial_of}
use Rattle.virial.proofs.scalar_virial.Goals as goal

pub returns-then-rows_plain : goal.returns-then-rows_plain
unfolding scalar_virial_of
returns-then-rows_plain c = rw (← c.rows_plain.ensures, c.if-rows_plain.true)

pub returns : goal.returns
returns c = rw (← c.rows_plain.ensures, c.if-rows_plain.false)
