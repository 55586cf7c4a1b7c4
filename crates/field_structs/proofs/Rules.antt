-- A rule other than 1 and 2 is out of range. Assumes nothing.
use mathlib.Core.Path.{◌≡◌, refl}
use mathlib.Core.Bool.{false}
use lib.Ieee.{neg}
use borrow.Author.Tests.{ne_eqb}
use Rattle.float.specs.Literals.{f1}
use Rattle.ranges.specs.Ranged.{between}
use Rattle.potentials.specs.Ranged.{depth, lj_in_range}
use Rattle.field_structs.specs.declared.FlatLj.{FlatLj}
use Rattle.field_structs.specs.Taken.{ruled_of, lj_of}
use Rattle.field_structs.specs.Rules.{OtherRule}

below : depth (neg f1) ≡ false
unfolding between lib.Ieee.le lib.Ieee.of_bits neg
below = refl

pub other_rule : (lj : FlatLj) → OtherRule lj
unfolding ruled_of lj_of lj_in_range
other_rule lj n m = rw (ne_eqb lj.rule 1 n, ne_eqb lj.rule 2 m, below)
