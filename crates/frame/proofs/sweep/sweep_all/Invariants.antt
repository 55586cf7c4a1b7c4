use Rattle.bins.proofs.Runs.{Run}
use Rattle.bins.specs.Traversal.{pairs_of}
use Rattle.bins.proofs.Sweeps.{cells_from}
use Rattle.frame.specs.Steps.{atoms_by, scene_by}
use Rattle.frame.proofs.sweep.sweep_all.Given as goal

abbrev pub invariant-loop-h : goal.invariant-loop-h
invariant-loop-h l = Run (scene_by l.f l.xs l.table) (record { tally = l.initial.now; mem = l.initial.pairs }) (record { tally = l.now; mem = l.pairs }) (pairs_of l.g (atoms_by l.f l.xs)) (cells_from l.g (atoms_by l.f l.xs) l.h)
