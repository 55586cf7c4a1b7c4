use Rattle.bins.proofs.Runs.{run_each, run_each_end, ready_each}
use Rattle.bins.specs.Traversal.{visit}
use Rattle.bins.proofs.Sweeps.{rows_begin}
use Rattle.frame.specs.Steps.{atoms_by}
use Rattle.frame.proofs.sweep.sweep_cell.Goals as goal

pub loop-s-init : goal.loop-s-init
loop-s-init c = rows_begin _ _ _ c.requires.ready

pub sweep_row-now-requires : goal.sweep_row-now-requires
sweep_row-now-requires c = record { swept = c.requires.swept; in_grid = c.requires.in_grid; ready = ready_each 14 c.loop-s.s (visit c.args.g (atoms_by c.args.f c.args.xs.now) c.args.home) c.loop-s-test.true c.loop-s.invariant }

pub loop-s-preserved : goal.loop-s-preserved
loop-s-preserved c = run_each 14 c.loop-s.s (visit c.args.g (atoms_by c.args.f c.args.xs.now) c.args.home) c.loop-s-test.true _ c.loop-s.invariant c.sweep_row-now.ensures

pub returns : goal.returns
returns c = run_each_end 14 c.loop-s.s (visit c.args.g (atoms_by c.args.f c.args.xs.now) c.args.home) c.loop-s-test.false c.loop-s.invariant
