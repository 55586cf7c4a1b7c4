use Rattle.neighbor_listing.proofs.Flagging.{Flagging}
use mathlib.Core.Bool.{true}
use Rattle.neighbor_listing.proofs.side.flag_upper.Given as goal

abbrev pub invariant-loop-k : goal.invariant-loop-k
invariant-loop-k l = Flagging l.s l.i l.a l.part l.bx l.by l.bz l.initial.flags l.flags l.from l.k true
