use Rattle.neighbor_listing.proofs.Flagging.{Taking}
use Rattle.neighbor_listing.proofs.side.gather.Given as goal

abbrev pub invariant-loop-k : goal.invariant-loop-k
invariant-loop-k l = Taking l.part l.flags l.initial.room l.room l.from l.count l.k
