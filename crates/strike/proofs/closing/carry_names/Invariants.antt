use Prim.Native.Nat.{◌-◌, ◌*◌, ◌+◌}
use Rattle.strike.specs.Closed.{new_number}
use Rattle.strike.specs.Steps.{Carrying}
use lib.ListN.{get_or}
use Rattle.strike.proofs.closing.carry_names.Given as goal

abbrev pub invariant-loop-c : goal.invariant-loop-c
invariant-loop-c l = Carrying 0 (λ j. new_number l.marks (get_or l.initial.names (l.width * l.from + j) 0)) (l.width * l.to) l.width l.c l.initial.names l.names
