use Rattle.float.specs.Steps.{sign_of}
use lib.Ieee.{of_bits}
use Rattle.float.proofs.with_sign.Goals as goal

pub returns : goal.returns
unfolding sign_of of_bits
returns c = rw (c.pick.ensures, c.pick-signed.ensures)
