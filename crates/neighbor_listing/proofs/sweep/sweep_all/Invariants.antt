use Prim.Native.Nat.{◌≤◌}
use Rattle.bins.proofs.Runs.{Run}
use Rattle.bins.specs.Traversal.{pairs_of}
use Rattle.bins.proofs.Sweeps.{cells_from}
use Rattle.neighbor_listing.specs.Steps.{atoms_by, scene_by}
use lib.ListN.{length}
use mathlib.Core.Path.{◌≡◌}
use Rattle.neighbor_listing.proofs.sweep.sweep_all.Given as goal

abbrev pub invariant-loop-h : goal.invariant-loop-h
invariant-loop-h l = (l.h ≤ l.count) × (length l.pairs ≡ length l.initial.pairs) × Run (scene_by l.s l.xs l.tops l.table) (record { tally = l.initial.now; mem = l.initial.pairs }) (record { tally = l.now; mem = l.pairs }) (pairs_of l.g (atoms_by l.g l.starts l.items)) (cells_from l.g (atoms_by l.g l.starts l.items) l.h)
