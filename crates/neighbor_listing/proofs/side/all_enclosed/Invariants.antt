use Prim.Native.Nat.{◌≤◌}
use Rattle.neighbor_listing.specs.Sides.{AllEnclosed}
use Rattle.neighbor_listing.proofs.side.all_enclosed.Given as goal

abbrev pub invariant-loop-k : goal.invariant-loop-k
invariant-loop-k l = (l.k ≤ l.n) × AllEnclosed l.bx l.by l.bz l.k l.w l.ok
