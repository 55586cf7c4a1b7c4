use Prim.Native.Nat.{◌≤◌}
use Rattle.bins.proofs.Runs.{Run}
use Rattle.bins.proofs.Sweeps.{rows_from}
use Rattle.bins.specs.Traversal.{cell_pairs}
use Rattle.neighbor_listing.specs.Steps.{atoms_by, scene_by}
use lib.ListN.{length}
use mathlib.Core.Path.{◌≡◌}
use Rattle.neighbor_listing.proofs.sweep.sweep_cell.Given as goal

abbrev pub invariant-loop-row : goal.invariant-loop-row
invariant-loop-row l = (l.row ≤ 14) × (length l.pairs ≡ length l.initial.pairs) × Run (scene_by l.s l.xs l.tops l.table) (record { tally = l.initial.now; mem = l.initial.pairs }) (record { tally = l.now; mem = l.pairs }) (cell_pairs l.g (atoms_by l.g l.starts l.items) l.home) (rows_from l.g (atoms_by l.g l.starts l.items) l.home l.row)
