use Prim.Native.Nat.{◌≤◌}
use Rattle.neighbor_listing.specs.Sides.{LaidOut}
use lib.ListN.{length}
use Rattle.neighbor_listing.proofs.side.lay_out.Given as goal

abbrev pub invariant-loop-k : goal.invariant-loop-k
invariant-loop-k l = (l.k ≤ length l.part) × LaidOut l.xs l.part l.bx l.by l.bz l.k
