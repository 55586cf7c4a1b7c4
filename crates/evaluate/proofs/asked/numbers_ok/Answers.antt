use Rattle.evaluate.specs.Asked.{numbers_ok}
use Rattle.evaluate.proofs.asked.numbers_ok.Goals as goal

pub returns : goal.returns
returns c = unfold numbers_ok in rw (← c.lj_ok.ensures, ← c.coulomb_ok.ensures, ← c.bond_ok.ensures, ← c.angle_ok.ensures, ← c.units_in_range.ensures, ← c.rows_in_range.ensures, ← c.charges_in_range.ensures, ← c.entries_in_range.ensures, ← c.entries_in_range-2.ensures, ← c.per_angle_in_range.ensures)
