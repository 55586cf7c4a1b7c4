use Rattle.virial.specs.Virial.{to_gpa_of}
use Rattle.virial.proofs.to_gpa.Goals as goal

pub returns-then-units_in_range-plain : goal.returns-then-units_in_range-plain
unfolding to_gpa_of
returns-then-units_in_range-plain c = rw (← c.units_in_range.ensures, ← c.plain.ensures, c.if-units_in_range-plain.true)

pub returns : goal.returns
returns c = rw (← c.units_in_range.ensures, ← c.plain.ensures, c.if-units_in_range-plain.false)
