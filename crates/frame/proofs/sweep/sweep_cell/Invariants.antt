use Rattle.bins.proofs.Runs.{Run}
use Rattle.bins.specs.Traversal.{cell_pairs}
use Rattle.bins.proofs.Sweeps.{rows_from}
use Rattle.frame.specs.Steps.{atoms_by, scene_by}
use Rattle.frame.proofs.sweep.sweep_cell.Given as goal

abbrev pub invariant-loop-s : goal.invariant-loop-s
invariant-loop-s l = Run (scene_by l.f l.xs l.table) (record { tally = l.initial.now; mem = l.initial.pairs }) (record { tally = l.now; mem = l.pairs }) (cell_pairs l.g (atoms_by l.f l.xs) l.home) (rows_from l.g (atoms_by l.f l.xs) l.home l.s)
