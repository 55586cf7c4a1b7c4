use Rattle.bins.proofs.Sweeps.{cells_begin, cell_turn, cell_ready, cells_end, cell_in}
use Rattle.frame.specs.Steps.{atoms_by}
use Rattle.frame.proofs.sweep.sweep_all.Goals as goal

pub loop-h-init : goal.loop-h-init
loop-h-init c = cells_begin _ _ c.requires.ready

pub sweep_cell-now-requires : goal.sweep_cell-now-requires
sweep_cell-now-requires c = record { swept = c.requires.swept; in_grid = cell_in c.args.g c.loop-h.h c.cell_count-count.ensures c.loop-h-test.true c.home_of-home.ensures; ready = cell_ready c.args.g (atoms_by c.args.f c.args.xs.now) c.loop-h.h c.cell_count-count.ensures c.loop-h-test.true c.home_of-home.ensures c.loop-h.invariant }

pub loop-h-preserved : goal.loop-h-preserved
loop-h-preserved c = cell_turn c.args.g (atoms_by c.args.f c.args.xs.now) c.loop-h.h c.cell_count-count.ensures c.loop-h-test.true c.home_of-home.ensures _ c.loop-h.invariant c.sweep_cell-now.ensures

pub returns : goal.returns
returns c = cells_end c.args.g (atoms_by c.args.f c.args.xs.now) c.loop-h.h c.cell_count-count.ensures c.loop-h-test.false c.loop-h.invariant
