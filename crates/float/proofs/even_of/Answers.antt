use Rattle.float.proofs.Branches.{yes}
use Rattle.float.proofs.Finite.{positive_no_nan, lead_of, lead_le, lead_in, lead_root, bits, field_of}
use Rattle.float.specs.Def.{root_scaled}
use Rattle.std.proofs.Common.{ap, ◌∙◌, arith}
use Rattle.float.proofs.even_of.Goals as goal

pub float_to_bits-bits : goal.float_to_bits-bits
float_to_bits-bits c = positive_no_nan _ c.requires

pub overflow_mul-lead : goal.overflow_mul-lead
overflow_mul-lead c = omega (arith, (lead_le _ _ (lead_of (field_of (bits _ c.requires (yes c.well_formed.0.1))) _ c.choose-lead.ensures)).0)

pub overflow_add-digits : goal.overflow_add-digits
overflow_add-digits c = omega (arith, (lead_le _ _ (lead_of (field_of (bits _ c.requires (yes c.well_formed.0.1))) _ c.choose-lead.ensures)).0)

pub overflow_sub-field : goal.overflow_sub-field
overflow_sub-field c = (lead_le _ _ (lead_of _ _ c.choose-lead.ensures)).1

pub evened-requires : goal.evened-requires
evened-requires c = lead_in _ c.requires (yes c.well_formed.0.1) _ (lead_of _ _ c.choose-lead.ensures)

pub returns : goal.returns
returns c = record { low = c.evened.ensures.low; high = c.evened.ensures.high; few = c.evened.ensures.few; same = ap root_scaled c.evened.ensures.whole ∙ lead_root _ c.requires (yes c.well_formed.0.1) _ (lead_of _ _ c.choose-lead.ensures) }
