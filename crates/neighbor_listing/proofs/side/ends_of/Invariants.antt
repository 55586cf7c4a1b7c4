use Prim.Native.Nat.{◌≤◌}
use Rattle.neighbor_listing.proofs.side.ends_of.Given as goal

abbrev pub invariant-loop-k : goal.invariant-loop-k
invariant-loop-k l = l.k ≤ l.n
