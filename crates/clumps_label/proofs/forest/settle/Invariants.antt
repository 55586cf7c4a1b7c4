use Rattle.clumps_label.specs.Steps.{Settled}
use Rattle.clumps_label.proofs.forest.settle.Given as goal

abbrev pub invariant-loop-i : goal.invariant-loop-i
invariant-loop-i l = Settled l.initial.p l.i l.count l.p
