use Prim.Native.Nat.{◌-◌, ◌+◌, ◌*◌}
use Rattle.float.specs.Arith.{at}
use Rattle.strike.specs.Steps.{Carrying}
use lib.Ieee.{nan}
use Rattle.strike.proofs.closing.carry.Given as goal

abbrev pub invariant-loop-c : goal.invariant-loop-c
invariant-loop-c l = Carrying nan (λ j. at l.initial.xs (l.width * l.from + j)) (l.width * l.to) l.width l.c l.initial.xs l.xs
