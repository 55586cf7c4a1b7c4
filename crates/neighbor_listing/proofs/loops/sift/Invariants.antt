use Rattle.neighbor_listing.proofs.Sifted.{Sifting}
use Rattle.neighbor_listing.specs.Steps.{near_to}
use Rattle.neighbor_listing.proofs.loops.sift.Given as goal

abbrev pub invariant-loop-j : goal.invariant-loop-j
invariant-loop-j l = Sifting (near_to l.s l.xs l.i) l.part l.initial.room l.room l.count l.j-index
