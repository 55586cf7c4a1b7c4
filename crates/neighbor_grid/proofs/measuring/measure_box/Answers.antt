use Rattle.neighbor_grid.specs.Grid.{extent_of}
use Rattle.neighbor_grid.specs.Steps.{measure_of, ruler_of}
use Rattle.neighbor_grid.proofs.measuring.measure_box.Goals as goal

pub returns : goal.returns
unfolding measure_of ruler_of extent_of
returns c = simp (c.extent-widths.ensures, c.extent-spread.ensures, c.bounds_of-b.ensures)
