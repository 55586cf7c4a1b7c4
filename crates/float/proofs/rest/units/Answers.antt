use Rattle.float.proofs.Branches.{yes}
use Rattle.float.proofs.Finite.{positive_no_nan, lead_of}
use Rattle.float.proofs.Remainder.{units_are}
use Rattle.float.proofs.rest.units.Goals as goal

pub float_to_bits-bits : goal.float_to_bits-bits
float_to_bits-bits c = positive_no_nan _ c.requires

pub returns : goal.returns
returns c = units_are _ c.requires (yes c.well_formed.0.1) _ (lead_of _ _ c.choose-lead.ensures)
