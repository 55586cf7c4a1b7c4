use Rattle.neighbor_listing.specs.Steps.{sees_of}
use Rattle.neighbor_listing.proofs.sight.sees.Goals as goal

pub returns : goal.returns
returns c = unfold sees_of in simp (c.norm2.ensures, c.quick_image.ensures, c.apart.ensures)
