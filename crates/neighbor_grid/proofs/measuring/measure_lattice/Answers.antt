use Rattle.neighbor_grid.specs.Steps.{measure_of, ruler_of}
use Rattle.neighbor_grid.proofs.measuring.measure_lattice.Goals as goal

pub returns : goal.returns
unfolding measure_of ruler_of
returns c = simp (c.row_vec.ensures, c.row_vec-2.ensures, c.row_vec-3.ensures, c.inverse-m.ensures, c.singular.ensures, c.perp_widths.ensures)
