use Rattle.float.proofs.Branches.{yes}
use Rattle.float.proofs.Remainder.{divided_low, divided_high}
use Rattle.float.proofs.rest.divided.Goals as goal

pub returns-then-v-u : goal.returns-then-v-u
returns-then-v-u c = divided_low _ _ _ _ _ _ _ _ c.requires.0 c.requires.1 c.units-u.ensures c.units-v.ensures c.if-v-u.true c.rest_of.ensures c.packed.ensures

pub returns-else-v-u : goal.returns-else-v-u
returns-else-v-u c = divided_high _ _ _ _ _ _ c.requires.0 c.requires.1 (yes c.well_formed.0.1) c.units-u.ensures c.units-v.ensures c.if-v-u.false
