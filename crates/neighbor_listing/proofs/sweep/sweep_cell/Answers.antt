use Rattle.bins.proofs.Runs.{run_each, run_each_end, ready_each}
use Rattle.bins.proofs.Sweeps.{rows_begin}
use Rattle.bins.specs.Traversal.{visit}
use Rattle.neighbor_listing.proofs.Considered.{part_is}
use Rattle.neighbor_listing.specs.Steps.{atoms_by}
use mathlib.Core.Path.{refl, ◌∙◌}
use native.Mathlib.Omega.{arith}
use Rattle.neighbor_listing.proofs.sweep.sweep_cell.Goals as goal

pub loop-row-init : goal.loop-row-init
loop-row-init c = (omega arith, refl, rows_begin _ _ _ c.requires.ready)

pub sweep_row-now-requires : goal.sweep_row-now-requires
sweep_row-now-requires c = record { swept = c.requires.swept; in_grid = c.requires.in_grid; framed = rw (part_is c.requires.swept c.requires.in_grid c.index.ensures c.atoms_in-mine.ensures) at c.bounds_at-v.ensures; ready = ready_each 14 c.loop-row.row (visit c.args.g (atoms_by c.args.g c.args.starts.now c.args.items.now) c.args.home) c.loop-row-test.true c.loop-row.invariant.2 }

pub loop-row-preserved : goal.loop-row-preserved
loop-row-preserved c = (omega (arith, c.loop-row-test.true), c.sweep_row-now.auto.pairs ∙ c.loop-row.invariant.1, run_each 14 c.loop-row.row (visit c.args.g (atoms_by c.args.g c.args.starts.now c.args.items.now) c.args.home) c.loop-row-test.true _ c.loop-row.invariant.2 c.sweep_row-now.ensures)

pub returns : goal.returns
returns c = run_each_end 14 c.loop-row.row (visit c.args.g (atoms_by c.args.g c.args.starts.now c.args.items.now) c.args.home) c.loop-row-test.false c.loop-row.invariant.2
