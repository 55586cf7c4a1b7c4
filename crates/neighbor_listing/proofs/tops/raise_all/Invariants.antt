use Rattle.neighbor_listing.proofs.Partners.{Raised}
use Rattle.neighbor_listing.proofs.tops.raise_all.Given as goal

abbrev pub invariant-loop-k : goal.invariant-loop-k
invariant-loop-k l = Raised l.table l.initial.tops l.tops l.k
