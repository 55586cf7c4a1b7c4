use mathlib.Core.Path.{refl}
use Rattle.cell_prepared.proofs.Law.{short_way}
use Rattle.cell_prepared.proofs.short_image.Goals as goal

pub returns : goal.returns
returns c = short_way _ _ c.requires refl refl refl c.near.ensures c.near-2.ensures c.near-3.ensures
