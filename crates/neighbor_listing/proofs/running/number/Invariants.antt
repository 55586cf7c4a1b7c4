use Rattle.neighbor_listing.proofs.Numbered.{Numbering}
use Rattle.neighbor_listing.proofs.running.number.Given as goal

abbrev pub invariant-loop-k : goal.invariant-loop-k
invariant-loop-k l = Numbering l.initial.atoms l.atoms l.k
